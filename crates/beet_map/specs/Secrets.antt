-- The secrets of a script: what its servers hold before they draw numbers.
use Rattle.std.specs.Prelude.{ℕ, List, map}
use Rattle.beet_field.specs.declared.point.Point.{Point}
use Rattle.beet_field.specs.declared.trio.Trio.{Trio}
use Rattle.beet_shamir.specs.Line.{point_of}
use Rattle.beet_shamir.specs.declared.Line.{Line}
use Rattle.beet_gates.specs.declared.Batch.{Batch}
use Rattle.beet_sharing.specs.Runs.{Setup}
use Rattle.beet_field.specs.Trio.{trio_of}

-- the lines of the inputs, and the words that each server deals
pub record Secrets : Type 0 where
  pub inputs : List Line
  pub masks : Trio (List ℕ)

abbrev pub values_of : List Line → List ℕ
values_of lines = map (λ l. l.value) lines

abbrev pub slopes_of : List Line → List ℕ
slopes_of lines = map (λ l. l.slope) lines

-- their points at a server
abbrev pub shares_of : List Line → Point → List ℕ
shares_of lines i = map (λ l. point_of l.value l.slope i) lines

-- three servers that begin with these secrets, and with these numbers to draw
abbrev pub begin_in : (ℕ → List ℕ → Batch) → Secrets → Trio (List ℕ) → Setup
begin_in next w numbers =
    record { next = next; inputs = trio_of (shares_of w.inputs); masks = w.masks; numbers = numbers }
