-- When a core fits a run and a set of delivered messages.
use Rattle.std.specs.Prelude.{◌≡◌, ℕ, suc, ◌+◌, ◌<◌, ◌≤◌, List, [], ◌∷◌, Option, Some, None, Bool, true, false}
use Rattle.std.specs.Prelude.{if◌then◌else◌}
use Rattle.beet_field.specs.Trio.{member}
use Rattle.beet_field.specs.declared.point.Point.{Point}
use Rattle.beet_words.specs.Tapes.{words_passed}
use Rattle.beet_words.specs.Words.{accepted}
use Rattle.beet_gates.specs.Clear.{is_end}
use Rattle.beet_gates.specs.Each.{each}
use Rattle.beet_gates.specs.declared.Batch.{Batch}
use Rattle.beet_round.specs.Boxes.{place_at}
use Rattle.beet_round.specs.Sides.{peer}
use Rattle.beet_round.specs.declared.message.RoundMessage.{RoundMessage}
use Rattle.beet_round.specs.declared.sides.Side.{Side}
use Rattle.beet_round.specs.declared.sides.Side.TheVariants.{Low, High}
use Rattle.beet_sharing.specs.Runs.{Setup, coming, message, shared_at, standing_at}
use Rattle.beet_delivery.specs.Events.{Delivered, both_in}
use Rattle.beet_server.specs.Cores.{Core}
use Rattle.beet_server.specs.Steps.{Work, work_of}

-- t is a round of the run: the end does not come after t batches or before
abbrev pub IsRound : Setup → ℕ → Type 0
IsRound o t = (k : ℕ) → k ≤ t → is_end (coming o k).act ≡ false

-- the message of a run from one server to another in a round
abbrev pub message_of : Setup → Point → Point → ℕ → RoundMessage
message_of o from to t = record { from = from; to = to; round = t; numbers = record { items = message o from to t } }

-- both messages to a server in a round, the lower sender's first
abbrev pub messages_to : Setup → Point → ℕ → List RoundMessage
messages_to o me t = message_of o (peer me Low) me t ∷ message_of o (peer me High) me t ∷ []

-- both messages of a server in a round, the lower receiver's first
abbrev pub messages_from : Setup → Point → ℕ → List RoundMessage
messages_from o me t = message_of o me (peer me Low) t ∷ message_of o me (peer me High) t ∷ []

-- a message if it was delivered
abbrev pub some_if : Bool → RoundMessage → Option RoundMessage
some_if true m = Some m
some_if false m = None

-- how many rounds' numbers and words are taken from the tapes: those of the round too, once its messages are handed out
abbrev pub taken : ℕ → Bool → ℕ
taken round true = suc round
taken round false = round

-- what computes at a server stands in the run
pub record FitsWork {S : Type 0} (next : S → ℕ → List ℕ → Batch) (o : Setup) (w : Work S) : Type 0 where
  -- it holds the script, the words and the numbers of its server, and has passed rounds of the run
  pub script : o.next ≡ next w.script
  pub words : w.masks.words ≡ member o.masks w.me
  pub numbers : accepted w.coefficients.words ≡ member o.numbers w.me
  pub rounds : (t : ℕ) → t < w.round → is_end (coming o t).act ≡ false
  -- its points, opened and own numbers are those of the run; of its tapes the words are passed that it dealt and drew,
  -- with every word before them and none after the last
  pub wires : w.wires ≡ member (standing_at o w.round).wires w.me
  pub opened : w.opened ≡ (shared_at o w.round).opened
  pub dealt : w.masks.passed ≡ (shared_at o (taken w.round w.handed)).dealt
  pub drawn : w.coefficients.passed ≡ words_passed w.coefficients.words (shared_at o (taken w.round w.handed)).drawn
  pub own : w.own ≡ (if w.handed then message o w.me w.me w.round else [])

-- all that fits but for the wait
pub record Stands {S : Type 0} (next : S → ℕ → List ℕ → Batch) (o : Setup) (x : Delivered) (c : Core S) : Type 0 where
  pub work : FitsWork next o (work_of c)
  pub open work use *
  pub received : c.received ≡ each (messages_to o c.me) c.round
  -- its box has the delivered messages of its round and the next
  pub now : (s : Side) →
      place_at c.mail.now s ≡ some_if (x (peer c.me s) c.me c.round) (message_of o (peer c.me s) c.me c.round)
  pub early : (s : Side) →
      place_at c.mail.next s
      ≡ some_if (x (peer c.me s) c.me (c.round + 1)) (message_of o (peer c.me s) c.me (c.round + 1))
  -- both messages of each passed round are delivered, and nothing above the round, or above the next once the messages
  -- of the round are handed out
  pub before : (s : Side) (t : ℕ) → t < c.round → x (peer c.me s) c.me t ≡ true
  pub soon : (s : Side) (t : ℕ) → x (peer c.me s) c.me t ≡ true → (t ≤ taken c.round c.handed) × IsRound o t

-- the core stands in the run as its server, and has what was delivered to it; that its box is of the same server and
-- round, and wants as many numbers as a message of the round has, is kept by the core's invariant
pub record Fits {S : Type 0} (next : S → ℕ → List ℕ → Batch) (o : Setup) (x : Delivered) (c : Core S) : Type 0 where
  pub stands : Stands next o x c
  pub open stands use *
  -- once the messages of the round are handed out, one of those to the server is still missing
  pub waits : c.handed ≡ true → both_in x c.me c.round ≡ false

-- a setup has this script, these points of the inputs, these words and these numbers at a server
pub record OpensAt {S : Type 0} (next : S → ℕ → List ℕ → Batch) (o : Setup) (me : Point) (script : S)
    (inputs masks coefficients : List ℕ) : Type 0 where
  pub has_script : o.next ≡ next script
  pub has_inputs : member o.inputs me ≡ inputs
  pub has_words : member o.masks me ≡ masks
  pub has_numbers : member o.numbers me ≡ accepted coefficients
