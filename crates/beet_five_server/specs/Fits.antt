-- When a core fits a run among five and a set of delivered messages.
use Rattle.std.specs.Prelude.{◌≡◌, ℕ, suc, ◌<◌, ◌≤◌, List, map, Option, Some, None, Bool, true, false}
use Rattle.beet_words.specs.Tapes.{words_passed}
use Rattle.beet_words.specs.Words.{accepted}
use Rattle.beet_gates.specs.Clear.{is_end}
use Rattle.beet_gates.specs.declared.Batch.{Batch}
use Rattle.beet_delivery.specs.Networks.{Delivered, all_in}
use Rattle.beet_linear_sharing.specs.Runs.{Setup}
use Rattle.beet_five_server.specs.Runs.{coming, drawn as drawn_in, message, shared_at, standing_at}
use Rattle.beet_five_server.specs.Cores.{Work}
use Rattle.beet_five_server.specs.Mails.{Mailbag, cell}
use Rattle.beet_five_server.specs.Network.{five, peers, sends_to}
use Rattle.beet_five_server.specs.declared.mail.FiveMessage.{FiveMessage}

-- t is a round of the run: the end does not come after t batches or before
abbrev pub IsRound : Setup → ℕ → Type 0
IsRound o t = (k : ℕ) → k ≤ t → is_end (coming o k).act ≡ false

-- the message of a run from one server to another in a round
abbrev pub message_of : Setup → ℕ → ℕ → ℕ → FiveMessage
message_of o from to t = record { from = from; to = to; round = t; numbers = record { items = message o from to t } }

-- the four messages of a server in a round, in rising order of the peers
abbrev pub messages_from : Setup → ℕ → ℕ → List FiveMessage
messages_from o me t = map (λ to. message_of o me to t) (peers me)

-- a message if it is there
abbrev pub some_if : Bool → FiveMessage → Option FiveMessage
some_if true m = Some m
some_if false m = None

-- how many rounds' numbers and words are taken from the tapes: those of the round too, once its messages are handed out
abbrev pub taken : ℕ → Bool → ℕ
taken round true = suc round
taken round false = round

-- what computes at a server stands in the run
pub record FitsWork {S : Type 0} (next : S → ℕ → List ℕ → Batch) (o : Setup) (w : Work S) : Type 0 where
  -- it holds the script, the words and the numbers of its server, and has passed rounds of the run
  pub script : o.next ≡ next w.script
  pub words : w.masks.words ≡ o.masks w.me
  pub numbers : accepted w.coefficients.words ≡ o.numbers w.me
  pub rounds : (t : ℕ) → t < w.round → is_end (coming o t).act ≡ false
  -- its points and opened numbers are those of the run; of its tapes the words are passed that it dealt and drew
  pub wires : w.wires ≡ (standing_at o w.round).wires w.me
  pub opened : w.opened ≡ (shared_at o w.round).opened
  pub dealt : w.masks.passed ≡ (shared_at o (taken w.round w.handed)).dealt
  pub drawn : w.coefficients.passed ≡ words_passed w.coefficients.words
      (drawn_in (shared_at o (taken w.round w.handed)))

-- all that fits but for the wait
pub record Stands {S : Type 0} (next : S → ℕ → List ℕ → Batch) (o : Setup) (x : Delivered ℕ) (w : Work S)
    (bag : Mailbag) : Type 0 where
  pub work : FitsWork next o w
  pub open work use *
  -- it has the messages of its peers that were delivered, and its own of each round whose messages are handed out
  pub mail : (j : ℕ) → sends_to j w.me ≡ true → (t : ℕ) →
      cell bag.places t j ≡ some_if (x j w.me t) (message_of o j w.me t)
  pub own : (t : ℕ) → t < taken w.round w.handed → cell bag.places t w.me ≡ Some (message_of o w.me w.me t)
  pub none : (t : ℕ) → taken w.round w.handed ≤ t → cell bag.places t w.me ≡ None
  -- all messages of each passed round are delivered, and nothing above the round, or above the next once the messages
  -- of the round are handed out
  pub before : (j : ℕ) → sends_to j w.me ≡ true → (t : ℕ) → t < w.round → x j w.me t ≡ true
  pub soon : (j : ℕ) → sends_to j w.me ≡ true → (t : ℕ) → x j w.me t ≡ true → (t ≤ taken w.round w.handed) × IsRound o t

-- the core stands in the run as its server, and has what was delivered to it
pub record Fits {S : Type 0} (next : S → ℕ → List ℕ → Batch) (o : Setup) (x : Delivered ℕ) (w : Work S)
    (bag : Mailbag) : Type 0 where
  pub stands : Stands next o x w bag
  pub open stands use *
  -- once the messages of the round are handed out, one of those to the server is still missing
  pub waits : w.handed ≡ true → all_in five x w.me w.round ≡ false

-- a setup has this script, these points of the inputs, these words and these numbers at a server
pub record OpensAt {S : Type 0} (next : S → ℕ → List ℕ → Batch) (o : Setup) (me : ℕ) (script : S)
    (inputs masks coefficients : List ℕ) : Type 0 where
  pub has_script : o.next ≡ next script
  pub has_inputs : o.inputs me ≡ inputs
  pub has_words : o.masks me ≡ masks
  pub has_numbers : o.numbers me ≡ accepted coefficients
