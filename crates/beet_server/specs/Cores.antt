-- How contracts see a server's core, and the setup that three of them begin with.
use Rattle.std.specs.Prelude.{◌≡◌, ℕ, ◌||◌, List, [], take, Bool, false}
use Rattle.beet_field.specs.declared.point.Point.{Point}
use Rattle.beet_field.specs.declared.point.Point.TheVariants.{One, Two, Three}
use Rattle.beet_field.specs.declared.trio.Trio.{Trio}
use Rattle.beet_words.specs.Tapes.{Tape}
use Rattle.beet_gates.specs.Clear.{with_lets, is_end}
use Rattle.beet_gates.specs.Scripts.{size_of}
use Rattle.beet_gates.specs.declared.Batch.{Batch}
use Rattle.beet_round.specs.Boxes.{Mailbox, fresh_box}
use Rattle.beet_round.specs.declared.message.RoundMessage.{RoundMessage}
use Rattle.beet_sharing.specs.Runs.{Setup, numbers_of}
use Rattle.beet_field.specs.Trio.{of_each}

-- a server: its script and tapes; how many rounds it has passed, and both messages to it of each passed round, the
-- lower sender's first; its points of the wires, with the lets of the batch that comes; the opened numbers; the numbers
-- that it sends itself in its round, once the messages of the round are handed out, and none before; the messages that
-- came for its round and the next; and whether the messages of its round are handed out
pub record Core (S : Type 0) : Type 0 where
  pub me : Point
  pub script : S
  pub masks : Tape
  pub coefficients : Tape
  pub round : ℕ
  pub received : List (List RoundMessage)
  pub wires : List ℕ
  pub opened : List ℕ
  pub own : List ℕ
  pub mail : Mailbox
  pub handed : Bool

module _ {S : Type 0} (next : S → ℕ → List ℕ → Batch) where
  -- the batch that comes at a core
  abbrev pub coming_at : Core S → Batch
  coming_at c = next c.script c.round c.opened

  abbrev pub has_ended : Core S → Bool
  has_ended c = is_end (coming_at c).act

  -- whether nothing is handed out: the messages of the round were, or the script has ended
  abbrev pub is_quiet : Core S → Bool
  is_quiet c = c.handed || has_ended c

  -- a core that begins with these points of the inputs and these tapes
  abbrev pub fresh : Point → S → List ℕ → Tape → Tape → Core S
  fresh me script inputs masks coefficients = record {
    me = me;
    script = script;
    masks = masks;
    coefficients = coefficients;
    round = 0;
    received = [];
    wires = with_lets inputs (next script 0 []).lets.items;
    opened = [];
    own = [];
    mail = fresh_box me (size_of (next script 0 []).act);
    handed = false;
  }

  -- the tape of these words, none of which is passed
  abbrev pub unpassed : List ℕ → Tape
  unpassed words = record { words = words; passed = 0 }

  -- nothing was taken from the core or delivered to it: it is what begins with its first wires and its words
  abbrev pub IsFresh : (S → ℕ) → Core S → Type 0
  IsFresh inputs c =
      c ≡ fresh c.me c.script (take (inputs c.script) c.wires) (unpassed c.masks.words) (unpassed c.coefficients.words)

  -- three fresh cores of servers 1, 2 and 3 with one script
  pub record AreFresh (inputs : S → ℕ) (t : Trio (Core S)) : Type 0 where
    pub one : (t.one.me ≡ One) × IsFresh inputs t.one
    pub two : (t.two.me ≡ Two) × IsFresh inputs t.two
    pub three : (t.three.me ≡ Three) × IsFresh inputs t.three
    pub script_two : t.two.script ≡ t.one.script
    pub script_three : t.three.script ≡ t.one.script

  -- what three cores began with
  abbrev pub setup_of : (S → ℕ) → Trio (Core S) → Setup
  setup_of inputs t = record {
    next = next t.one.script;
    inputs = of_each (λ c. take (inputs c.script) c.wires) t;
    masks = of_each (λ c. c.masks.words) t;
    numbers = numbers_of (of_each (λ c. c.coefficients.words) t);
  }
