-- What a view holds of a run, round by round.
use Rattle.std.proofs.Common.{◌≡◌, ◌≢◌, ◌<◌, ℕ, List, [], length, slice_index, slice_get, get_or, Option, Some, None}
use Rattle.std.proofs.Common.{Result, unwrap_or, arith, refl, sym, ◌∙◌, ap, subst}
use Rattle.std.specs.Prelude.{option_and_then}
use Rattle.std.proofs.lemmas.List.{get_or_default, same_lists}
use Rattle.std.proofs.lemmas.Option.{slice_get_read}
use Rattle.std.proofs.lemmas.Grind.{same_number_lists}
use Rattle.beet_field.specs.Trio.{member}
use Rattle.beet_field.specs.declared.point.Point.{Point}
use Rattle.beet_field.specs.declared.point.Point.TheVariants.{One, Two, Three}
use Rattle.beet_field.specs.declared.trio.Trio.{Trio}
use Rattle.beet_gates.proofs.EachFacts.{get-each, length-each, get_or-each}
use Rattle.beet_plan.specs.Auction.{Auction, auction_batch}
use Rattle.beet_round.specs.Sides.{peer}
use Rattle.beet_round.specs.declared.sides.Side.{Side}
use Rattle.beet_round.specs.declared.sides.Side.TheVariants.{Low, High}
use Rattle.beet_server.specs.Cores.{Core}
use Rattle.beet_server.specs.Steps.{received_from}
use Rattle.beet_sharing.specs.Runs.{Setup, message}
use Rattle.beet_sharing.specs.Seen.{round_seen, rounds_seen}
use Rattle.beet_server.specs.Lockstep.{IsAtRound}
use Rattle.beet_view.specs.RunViews.{round_received}
use Rattle.beet_view.specs.Views.{Viewed, from_peer}
use Rattle.beet_view.proofs.RunFacts.{rounds-fit}
use Rattle.beet_audit.specs.Audits.{Message, MessageFrom, Rounds, held_from}
use Rattle.beet_audit.specs.Verdicts.{InTurn, Judges, Wants}
use Rattle.beet_audit.specs.declared.fault.AuditFault.{AuditFault}
use Rattle.beet_audit.specs.declared.fault.AuditFault.TheVariants.{OutOfMemory, RoundsDiffer}
use Rattle.beet_gates.proofs.Lists.{from-some}

-- of a round the numbers of the lower and of the higher peer
from-low : (s : Point) (round : List ℕ × List ℕ) → from_peer s (peer s Low) round ≡ Some round.0
from-low One round = refl
from-low Two round = refl
from-low Three round = refl

from-high : (s : Point) (round : List ℕ × List ℕ) → from_peer s (peer s High) round ≡ Some round.1
from-high One round = refl
from-high Two round = refl
from-high Three round = refl

module _ (view : Viewed) (s : Point) (named : view.server ≡ s) (t : ℕ) (round : List ℕ × List ℕ)
    (there : slice_get view.rounds t ≡ Some round) where
  held-of : (sender : Point) → held_from view t sender ≡ unwrap_or (from_peer s sender round) []
  held-of sender =
      ap (λ (o : Option (List ℕ × List ℕ)). unwrap_or (option_and_then (from_peer view.server sender) o) []) there
      ∙ ap (λ (me : Point). unwrap_or (from_peer me sender round) []) named

  pub held-low : held_from view t (peer s Low) ≡ round.0
  held-low = held-of (peer s Low) ∙ ap (λ (o : Option (List ℕ)). unwrap_or o []) (from-low s round)

  pub held-high : held_from view t (peer s High) ≡ round.1
  held-high = held-of (peer s High) ∙ ap (λ (o : Option (List ℕ)). unwrap_or o []) (from-high s round)

-- a message is right exactly where it is the one that is sent
pub right-message : (sender receiver : Point) (t : ℕ) (held sent : List ℕ) → held ≡ sent → Message sender receiver t held sent None
right-message sender receiver t held sent e = (ap (λ (l : List ℕ). length l) e, λ k lt. ap (λ (l : List ℕ). slice_index l k) e)

pub message-right : (sender receiver : Point) (t : ℕ) (held sent : List ℕ) → Message sender receiver t held sent None → held ≡ sent
message-right sender receiver t held sent h = same_number_lists held sent h.0 (λ k lt. h.1 k (omega (arith, h.0, lt)))

module _ (o : Setup) (view : Viewed) (s : Point) (named : view.server ≡ s) (rounds : ℕ) where
  -- the messages of a view of the run
  module _ (seen : view.rounds ≡ rounds_seen o s rounds) where
    pub rounds-many : length view.rounds ≡ rounds
    rounds-many = ap (λ (l : List (List ℕ × List ℕ)). length l) seen ∙ length-each (round_seen o s) rounds

    at-round : (t : ℕ) → t < rounds → slice_get view.rounds t ≡ Some (round_seen o s t)
    at-round t lt = ap (λ (l : List (List ℕ × List ℕ)). slice_get l t) seen ∙ get-each (round_seen o s) rounds t lt

    pub seen-low : (t : ℕ) → t < rounds → held_from view t (peer s Low) ≡ message o (peer s Low) s t
    seen-low t lt = held-low view s named t (round_seen o s t) (at-round t lt)

    pub seen-high : (t : ℕ) → t < rounds → held_from view t (peer s High) ≡ message o (peer s High) s t
    seen-high t lt = held-high view s named t (round_seen o s t) (at-round t lt)

  -- a view with these messages is that of the run
  pub seen-all : length view.rounds ≡ rounds → ((t : ℕ) → t < rounds → held_from view t (peer s Low) ≡ message o (peer s Low) s t) →
      ((t : ℕ) → t < rounds → held_from view t (peer s High) ≡ message o (peer s High) s t) → view.rounds ≡ rounds_seen o s rounds
  seen-all many low high =
      same_lists view.rounds (rounds_seen o s rounds) (many ∙ sym (length-each (round_seen o s) rounds))
      (λ t d lt.
      let within : t < rounds = omega (arith, many, lt) in
      let round : List ℕ × List ℕ = get_or view.rounds t d in
      let there : slice_get view.rounds t ≡ Some round =
      slice_get_read view.rounds (length view.rounds) t round refl lt (get_or_default view.rounds t d round lt) in
      let first : round.0 ≡ message o (peer s Low) s t = sym (held-low view s named t round there) ∙ low t within in
      let second : round.1 ≡ message o (peer s High) s t = sym (held-high view s named t round there) ∙ high t within in
      let both : round ≡ round_seen o s t = λ j. (first j, second j) in
      both ∙ sym (get_or-each (round_seen o s) rounds t d within))

-- what a core at the end of the run received
module _ (o : Setup) (rounds : ℕ) (s : Point) (core : Core Auction) (at : IsAtRound auction_batch o rounds s core)
    (t : ℕ) (lt : t < rounds) where
  both-received : round_received core t ≡ round_seen o s t
  both-received =
      let within : t < core.round = subst (λ n. t < n) (sym at.round) lt in
      let fit = rounds-fit auction_batch o _ core at.fits in
      from-some (sym (get-each (round_received core) core.round t within) ∙ ap (λ (l : List (List ℕ × List ℕ)). slice_get l t) fit
      ∙ get-each (round_seen o core.me) core.round t within)
      ∙ ap (λ (me : Point). round_seen o me t) at.name

  pub received-peer : (side : Side) → unwrap_or (received_from core t (peer s side)) [] ≡ message o (peer s side) s t
  received-peer Low = ap (λ (me : Point). unwrap_or (received_from core t (peer me Low)) []) (sym at.name)
      ∙ ap (λ (b : List ℕ × List ℕ). b.0) both-received
  received-peer High = ap (λ (me : Point). unwrap_or (received_from core t (peer me High)) []) (sym at.name)
      ∙ ap (λ (b : List ℕ × List ℕ). b.1) both-received

-- what is found of a message that a core received is found of that of the run
pub judged-peer : {U : Type 0} (side : Side) (result : Result U AuditFault) (o : Setup) (rounds : ℕ) (s : Point) (view : Viewed)
    (core : Core Auction) (t : ℕ) (sender : Point) → IsAtRound auction_batch o rounds s core → t < rounds →
    sender ≡ peer s side → Judges (Message sender s t (held_from view t sender) (unwrap_or (received_from core t sender) [])) result →
    Judges (Message (peer s side) s t (held_from view t (peer s side)) (message o (peer s side) s t)) result
judged-peer side result o rounds s view core t sender at lt e h =
    subst (λ (sent : List ℕ). Judges (Message (peer s side) s t (held_from view t (peer s side)) sent) result)
    (received-peer o rounds s core at t lt side)
    (subst (λ (from : Point). Judges (Message from s t (held_from view t from) (unwrap_or (received_from core t from) [])) result) e h)

-- what is found of the rounds of a core is found of those of the run
pub judged-count : (fault : AuditFault) (views : Trio Viewed) (s : Point) (count rounds : ℕ) → count ≡ rounds →
    (fault ≢ OutOfMemory → Wants (length (member views s).rounds ≡ count)
    (RoundsDiffer s (length (member views s).rounds) count) (Some fault)) →
    fault ≢ OutOfMemory → Rounds views rounds s (Some fault)
judged-count fault views s count rounds e h =
    subst (λ n. fault ≢ OutOfMemory →
    Wants (length (member views s).rounds ≡ n) (RoundsDiffer s (length (member views s).rounds) n) (Some fault)) e h

-- both messages to a server
abbrev pub BothTo : Setup → Trio Viewed → ℕ → Point → Option AuditFault → Type 0
BothTo o views t s = InTurn (MessageFrom o views t s (peer s Low)) (MessageFrom o views t s (peer s High))
