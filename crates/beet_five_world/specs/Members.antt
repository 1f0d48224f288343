-- A server of a world: its core, and the messages that it handed out.
use Rattle.std.specs.Prelude.{◌≡◌, ◌≤◌, ◌+◌, ◌-◌, ℕ, List, [], ◌∷◌, length, true, false, Some, slice_get}
use Rattle.std.specs.Prelude.{if◌then◌else◌, map}
use Rattle.beet_words.specs.Tapes.{Tape}
use Rattle.beet_delivery.specs.Networks.{Delivered, Triple, deliver, has as is_in, is_sent, nothing, with_triple}
use Rattle.beet_gates.specs.Each.{each}
use Rattle.beet_gates.specs.declared.Batch.{Batch}
use Rattle.beet_round.specs.declared.mailbox.Verdict.{Verdict}
use Rattle.beet_linear_sharing.specs.Runs.{Setup}
use Rattle.beet_five_server.specs.Runs.{HasRounds}
use Rattle.beet_five_server.specs.Answers.{Core, fresh_core, late_verdict}
use Rattle.beet_five_server.specs.Cores.{has_ended, is_quiet}
use Rattle.beet_five_server.specs.Fits.{Fits, IsRound, message_of, messages_from, taken}
use Rattle.beet_five_server.specs.Mails.{verdict_of}
use Rattle.beet_five_server.specs.Network.{five, sends_to}
use Rattle.beet_five_server.specs.declared.mail.FiveMessage.{FiveMessage}
use Rattle.beet_weights.specs.Quadratics.{IsServer}
use Rattle.beet_five_world.specs.declared.world.FiveDelivery.{FiveDelivery}

pub record Seen (S : Type 0) : Type 0 where
  pub core : Core S
  pub sent : List (List FiveMessage)

-- how many rounds' messages a core has handed out
abbrev pub handed_rounds : {S : Type 0} → Core S → ℕ
handed_rounds c = taken c.work.round c.work.handed

-- the core fits the run and the set, and what it handed out are the run's messages
pub record IsMember {S : Type 0} (next : S → ℕ → List ℕ → Batch) (o : Setup) (x : Delivered ℕ) (c : Core S)
    (sent : List (List FiveMessage)) : Type 0 where
  pub fits : Fits next o x c.work c.mail
  pub messages : sent ≡ each (messages_from o c.work.me) (handed_rounds c)
  pub goes : c.work.handed ≡ true → has_ended next c.work ≡ false

-- as many messages as rounds were handed out, and there is room for all; a core that has handed out has not ended
pub record IsKept {S : Type 0} (next : S → ℕ → List ℕ → Batch) (rounds room : ℕ) (c : Core S) (count : ℕ) : Type 0 where
  pub server : IsServer c.work.me
  pub counted : count ≡ handed_rounds c
  pub fit : rounds ≤ room

-- the verdict of a core on a message: once it has ended, by its rounds alone
abbrev pub verdict_at : {S : Type 0} → (S → ℕ → List ℕ → Batch) → Core S → FiveMessage → Verdict
verdict_at next core m = if has_ended next core.work then late_verdict core.work m else verdict_of core.mail m

-- what giving a server a message leaves: if it was a member of a run, and this is a message of the run to it that it
-- may get, it is one with the message delivered, and quiet
abbrev pub Gives : {S : Type 0} → (S → ℕ → List ℕ → Batch) → Seen S → Seen S → FiveMessage → Type 0
Gives next old new m =
    (o : Setup) (x : Delivered ℕ) (j t : ℕ) → IsMember next o x old.core old.sent → sends_to j old.core.work.me ≡ true →
    m ≡ message_of o j old.core.work.me t → IsRound o t → t ≤ old.core.work.round + 1 →
    IsMember next o (with_triple five x (record { from = j; to = old.core.work.me; round = t })) new.core new.sent
    × (is_quiet next new.core.work ≡ true)

-- the server at a place of a list
abbrev pub IsAt : {S : Type 0} → List (Seen S) → ℕ → Seen S → Type 0
IsAt ms k m = slice_get ms k ≡ Some m

-- one server of a list was given a message, and the others are as they were
pub record GivesAt {S : Type 0} (next : S → ℕ → List ℕ → Batch) (old new : List (Seen S)) (k : ℕ)
    (m : FiveMessage) : Type 0 where
  pub before : Seen S
  pub after : Seen S
  pub was : IsAt old k before
  pub is : IsAt new k after
  pub gives : Gives next before after m
  pub me : after.core.work.me ≡ before.core.work.me
  pub script : after.core.work.script ≡ before.core.work.script
  pub others : (i : ℕ) → (i ≡ k → ⊥) → slice_get new i ≡ slice_get old i
  pub count : length new ≡ length old

-- a server of a world runs the script, and stands in a run with these messages delivered
pub record Stands {S : Type 0} (next : S → ℕ → List ℕ → Batch) (script : S) (o : Setup) (x : Delivered ℕ) (j : ℕ)
    (m : Seen S) : Type 0 where
  pub me : m.core.work.me ≡ j
  pub runs : m.core.work.script ≡ script
  pub member : IsMember next o x m.core m.sent
  pub quiet : is_quiet next m.core.work ≡ true

-- all five servers run the script, and stand in a run of so many rounds; what was delivered was sent
pub record AllFit {S : Type 0} (next : S → ℕ → List ℕ → Batch) (script : S) (o : Setup) (rounds : ℕ)
    (x : Delivered ℕ) (ms : List (Seen S)) : Type 0 where
  pub has : HasRounds o rounds
  pub was : (e : Triple ℕ) → is_in x e ≡ true → is_sent five rounds x e ≡ true
  pub count : length ms ≡ 5
  pub stands : (j : ℕ) → IsServer j → (m : Seen S) → IsAt ms (j - 1) m → Stands next script o x j m

-- the round is that of each server, one before it, or the next
abbrev pub AreNear : {S : Type 0} → List (Seen S) → ℕ → Type 0
AreNear {S} ms round =
    (j : ℕ) (s : Seen S) → IsServer j → IsAt ms (j - 1) s → round ≤ s.core.work.round + 1

-- the servers stand in some run
pub record IsWorld {S : Type 0} (next : S → ℕ → List ℕ → Batch) (ms : List (Seen S)) : Type 0 where
  pub script : S
  pub o : Setup
  pub rounds : ℕ
  pub x : Delivered ℕ
  pub fit : AllFit next script o rounds x ms

-- these servers are those that an event led to: in each run in which the old ones stand, the new ones stand after it
abbrev pub Leads : {S : Type 0} → (S → ℕ → List ℕ → Batch) → List (Seen S) → Triple ℕ → List (Seen S) → Type 0
Leads {S} next old e new =
    (script : S) (o : Setup) (rounds : ℕ) (x : Delivered ℕ) → AllFit next script o rounds x old →
    AllFit next script o rounds (deliver five rounds x e) new

-- a list of events led to them, one after another
abbrev pub LeadAll : {S : Type 0} → (S → ℕ → List ℕ → Batch) → List (Seen S) → List (Triple ℕ) → List (Seen S) → Type 0
LeadAll next old [] new = old ≡ new
LeadAll {S} next old (e ∷ es) new = (between : List (Seen S)) × Leads next old e between × LeadAll next between es new

-- five cores of one script that begin, those of servers 1 to 5 in order, each with its points, words and numbers
pub record AreFresh {S : Type 0} (next : S → ℕ → List ℕ → Batch) (most : S → ℕ) (cores : List (Core S)) : Type 0 where
  pub count : length cores ≡ 5
  pub script : S
  pub inputs : ℕ → List ℕ
  pub masks : ℕ → Tape
  pub coefficients : ℕ → Tape
  pub no_mask : (j : ℕ) → (masks j).passed ≡ 0
  pub no_number : (j : ℕ) → (coefficients j).passed ≡ 0
  pub are : (j : ℕ) → IsServer j →
      slice_get cores (j - 1) ≡ Some (fresh_core next j script (inputs j) (masks j) (coefficients j) (most script))

-- a server of a world from its core: in each run that the core fits it is a member, and quiet
pub record Begins {S : Type 0} (next : S → ℕ → List ℕ → Batch) (c : Core S) (m : Seen S) : Type 0 where
  pub me : m.core.work.me ≡ c.work.me
  pub script : m.core.work.script ≡ c.work.script
  pub begins : (o : Setup) (x : Delivered ℕ) → Fits next o x c.work c.mail →
      IsMember next o x m.core m.sent × (is_quiet next m.core.work ≡ true)

-- each of these cores is that of the server of its place, runs the script, and fits a run before any delivery
abbrev pub AllBegin : {S : Type 0} → (S → ℕ → List ℕ → Batch) → S → Setup → List (Core S) → Type 0
AllBegin {S} next script o cores =
    (j : ℕ) → IsServer j → (c : Core S) → slice_get cores (j - 1) ≡ Some c →
    (c.work.me ≡ j) × (c.work.script ≡ script) × Fits next o nothing c.work c.mail

-- the message of a server's round to another
abbrev pub triple : ℕ → ℕ → ℕ → Triple ℕ
triple from to t = record { from = from; to = to; round = t }

-- the messages of a schedule, in order
abbrev pub named_in : List FiveDelivery → List (Triple ℕ)
named_in schedule = map (λ d. triple d.from d.to d.round) schedule

-- the events that deliver a message: without those whose message is not sent when their turn comes
abbrev pub sent_in : ℕ → Delivered ℕ → List (Triple ℕ) → List (Triple ℕ)
sent_in rounds x [] = []
sent_in rounds x (e ∷ es) =
    if is_sent five rounds x e then e ∷ sent_in rounds (with_triple five x e) es else sent_in rounds x es
