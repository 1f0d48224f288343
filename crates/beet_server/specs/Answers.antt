-- What a core answers, and what it keeps.
use Rattle.std.specs.Prelude.{◌≡◌, ◌≢◌, ℕ, ◌+◌, ◌<◌, ◌≤◌, ◌==◌, ◌&&◌, ◌⊎◌, nat_lt, if◌then◌else◌, List, true, false}
use Rattle.beet_field.specs.declared.point.Point.{Point}
use Rattle.beet_gates.specs.declared.Batch.{Batch}
use Rattle.beet_round.specs.Boxes.{HasBoth, Mailbox, Judged, IsStranger}
use Rattle.beet_round.specs.Sides.{peer}
use Rattle.beet_round.specs.declared.message.RoundMessage.{RoundMessage}
use Rattle.beet_round.specs.declared.mailbox.Verdict.{Verdict}
use Rattle.beet_round.specs.declared.mailbox.Verdict.TheVariants.{Stored, Ready, Repeat, Old, TooEarly, Stranger}
use Rattle.beet_round.specs.declared.sides.Side.{Side}
use Rattle.beet_round.specs.declared.sides.Side.TheVariants.{Low, High}
use Rattle.beet_server.specs.Cores.{Core}
use Rattle.beet_delivery.specs.Events.{Delivered}
use Rattle.beet_server.specs.Steps.{handed_out, moved_on}

-- what stays of a core: its server, its script and the words of its tapes
pub record Keeps {S : Type 0} (old new : Core S) : Type 0 where
  pub me : new.me ≡ old.me
  pub script : new.script ≡ old.script
  pub masks : new.masks.words ≡ old.masks.words
  pub coefficients : new.coefficients.words ≡ old.coefficients.words

-- what handing out its messages makes of how far a core is: it passes the round if both messages to it are in, and
-- else it stays in the round
abbrev pub Moves : {S : Type 0} → Core S → Core S → Type 0
Moves old new =
    (HasBoth old.mail.now × (new.round ≡ old.round + 1) × (new.handed ≡ false))
    ⊎ (¬ (HasBoth old.mail.now) × (new.round ≡ old.round) × (new.handed ≡ true))

-- what is left of a core that hands out its messages: it then passes the round if both messages to it are in
abbrev pub HandsOut : {S : Type 0} → (S → ℕ → List ℕ → Batch) → Core S → Core S → Type 0
HandsOut next old new =
    (HasBoth old.mail.now × (new ≡ moved_on next (handed_out next old)))
    ⊎ (¬ (HasBoth old.mail.now) × (new ≡ handed_out next old))

-- the verdict of an ended core on a message
abbrev pub IsLateVerdict : {S : Type 0} → Core S → RoundMessage → Verdict → Type 0
IsLateVerdict c m Stranger = IsStranger c.me m
IsLateVerdict c m Old = (m.to ≡ c.me) × (m.from ≢ c.me) × (m.round < c.round)
IsLateVerdict c m (TooEarly t) = (m.to ≡ c.me) × (m.from ≢ c.me) × (c.round ≤ m.round) × (t ≡ c.round)
IsLateVerdict c m _ = ⊥

-- the box says the verdict; at Ready the core passes the round, and else only the box changes
pub record Answers {S : Type 0} (next : S → ℕ → List ℕ → Batch) (old new : Core S) (m : RoundMessage)
    (v : Verdict) : Type 0 where
  pub box : Mailbox
  pub judged : Judged old.mail box m v
  pub waits : v ≢ Ready → new ≡ record old { mail = box }
  pub passes : v ≡ Ready → new ≡ moved_on next (record old { mail = box })

abbrev pub other_side : Side → Side
other_side Low = High
other_side High = Low

-- the verdict of a server in a round on a message of the run from its peer of a side, of a round that is no later than
-- the next: old below the server's round, else a repeat if it is in the set, else ready if it is of the round and
-- the other peer's message of it is in, and else stored
abbrev pub verdict_on : Delivered → Point → ℕ → Side → ℕ → Verdict
verdict_on x s round side t =
    if nat_lt t round then Old
    else if x (peer s side) s t then Repeat
    else if (t == round) && x (peer s (other_side side)) s t then Ready
    else Stored
