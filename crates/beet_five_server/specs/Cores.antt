-- How contracts see a server's core, and what one server does in a round.
use Rattle.std.specs.Prelude.{ℕ, ◌+◌, ◌||◌, List, [], ◌++◌, slice_index, take, Bool, true, false}
use Rattle.beet_words.specs.Tapes.{Tape, drawn_from, left_of}
use Rattle.beet_gates.specs.Clear.{with_lets, is_end}
use Rattle.beet_gates.specs.Scripts.{deals_in}
use Rattle.beet_gates.specs.declared.Batch.{Batch}
use Rattle.beet_five_server.specs.Runs.{draws_in}
use Rattle.beet_five_server.specs.Parts.{numbers_for, points_given, numbers_opened}

-- what computes in a server: its script and tapes, how many rounds it has passed, its points of the wires, with the
-- lets of the batch that comes, the opened numbers, and whether the messages of its round are handed out
pub record Work (S : Type 0) : Type 0 where
  pub me : ℕ
  pub script : S
  pub masks : Tape
  pub coefficients : Tape
  pub round : ℕ
  pub wires : List ℕ
  pub opened : List ℕ
  pub handed : Bool

module _ {S : Type 0} (next : S → ℕ → List ℕ → Batch) where
  -- the batch that comes
  abbrev pub batch_of : Work S → Batch
  batch_of w = next w.script w.round w.opened

  -- whether a server has ended
  abbrev pub has_ended : Work S → Bool
  has_ended w = is_end (batch_of w).act

  -- whether nothing is handed out: the messages of the round were, or the script has ended
  abbrev pub is_quiet : Work S → Bool
  is_quiet w = w.handed || has_ended w

  -- a server that begins with these points of the inputs and these tapes
  abbrev pub fresh : ℕ → S → List ℕ → Tape → Tape → Work S
  fresh me script inputs masks coefficients = record {
    me = me;
    script = script;
    masks = masks;
    coefficients = coefficients;
    round = 0;
    wires = with_lets inputs (next script 0 []).lets.items;
    opened = [];
    handed = false;
  }

  -- the numbers of the round for a server
  abbrev pub sends : Work S → ℕ → List ℕ
  sends w to =
      let act = (batch_of w).act in
      numbers_for act w.wires (slice_index w.masks.words w.masks.passed)
      (take (draws_in act) (left_of w.coefficients)) to

  -- the messages of the round are handed out, and the words and numbers are taken for them
  abbrev pub handing : Work S → Work S
  handing w = record w {
    masks = record w.masks { passed = w.masks.passed + deals_in (batch_of w).act };
    coefficients = drawn_from w.coefficients (draws_in (batch_of w).act);
    handed = true;
  }

  -- the opened numbers with those that the numbers from each sender open
  abbrev pub opened_after : Work S → (ℕ → List ℕ) → List ℕ
  opened_after w from = w.opened ++ numbers_opened (batch_of w).act from

  -- the round is passed with the numbers from each sender, and the lets of the next batch are there
  abbrev pub passing : Work S → (ℕ → List ℕ) → Work S
  passing w from = record w {
    round = w.round + 1;
    wires = with_lets (w.wires ++ points_given (batch_of w).act from)
        (next w.script (w.round + 1) (opened_after w from)).lets.items;
    opened = opened_after w from;
    handed = false;
  }
