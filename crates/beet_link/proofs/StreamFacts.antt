-- What is at a place of a stream.
use Rattle.std.proofs.Common.{◌≡◌, ◌≤◌, ◌<◌, ℕ, [], length, Some, slice_get, sym, ◌∙◌, ap, subst}
use Rattle.std.proofs.lemmas.Option.{slice_get_within}
use Rattle.beet_field.specs.declared.point.Point.{Point}
use Rattle.beet_gates.proofs.EachFacts.{get-each, length-each}
use Rattle.beet_gates.specs.Scripts.{LawFrom, Standing, start_of}
use Rattle.beet_round.specs.declared.message.RoundMessage.{RoundMessage}
use Rattle.beet_server.specs.Fits.{message_of}
use Rattle.beet_sharing.proofs.Rounds.{lawful-rounds}
use Rattle.beet_sharing.specs.Runs.{Setup, rounds_among}
use Rattle.beet_link.specs.Ends.{IsNext, LinkEnd, end_at}
use Rattle.beet_link.specs.Streams.{stream}

pub length-stream : (o : Setup) (rounds : ℕ) (from to : Point) → length (stream o rounds from to) ≡ rounds
length-stream o rounds from to = length-each (message_of o from to) rounds

-- at each round there is its message
pub stream-at : (o : Setup) (rounds : ℕ) (from to : Point) (t : ℕ) → t < rounds →
    slice_get (stream o rounds from to) t ≡ Some (message_of o from to t)
stream-at o rounds from to t lt = get-each (message_of o from to) rounds t lt

-- and nothing else
pub stream-only : (o : Setup) (rounds : ℕ) (from to : Point) (t : ℕ) (m : RoundMessage) → slice_get (stream o rounds from to) t ≡ Some m →
    (t < rounds) × (m ≡ message_of o from to t)
stream-only o rounds from to t m e =
    let lt : t < rounds = subst (λ n. t < n) (length-stream o rounds from to) (slice_get_within (stream o rounds from to) t m e) in
    let same : Some m ≡ Some (message_of o from to t) = sym e ∙ stream-at o rounds from to t lt in
    (lt, cc)

-- a lawful run has no more messages than the most rounds of its script
pub length-few : (o : Setup) (bounds : Standing) (most inputs : ℕ) (from to : Point) → LawFrom o.next bounds most (start_of inputs) [] →
    length (stream o (rounds_among o most) from to) ≤ most
length-few o bounds most inputs from to law = rw (length-stream o (rounds_among o most) from to) (lawful-rounds o bounds most inputs law).1

-- an end that has moved the messages of all rounds before a round of the run moves that of the round next
pub next-is : {room : ℕ} (o : Setup) (rounds : ℕ) (from to : Point) (t : ℕ) (e : LinkEnd) (m : RoundMessage) →
    e ≡ end_at room (stream o rounds from to) t →
    t < rounds → m ≡ message_of o from to t → IsNext e m
next-is o rounds from to t e m tie lt is =
    subst (λ (e : LinkEnd). IsNext e m) (sym tie) (stream-at o rounds from to t lt ∙ ap Some (sym is))

-- and what it moves next is that message
pub next-only : {room : ℕ} (o : Setup) (rounds : ℕ) (from to : Point) (t : ℕ) (e : LinkEnd) (m : RoundMessage) →
    e ≡ end_at room (stream o rounds from to) t →
    IsNext e m → m ≡ message_of o from to t
next-only o rounds from to t e m tie next =
    (stream-only o rounds from to t m (subst (λ (e : LinkEnd). IsNext e m) tie next)).1
