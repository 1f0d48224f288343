use Rattle.std.proofs.Common.{◌≡◌, ◌++◌, length}
use Rattle.beet_forms.proofs.row.push_rows.Given as goal

abbrev pub invariant-loop-row : goal.invariant-loop-row
invariant-loop-row l = l.rows.items ++ l.reader ≡ l.fn.rows.items ++ l.fn.reader

abbrev pub decreases-loop-row : goal.decreases-loop-row
decreases-loop-row l = length l.reader
