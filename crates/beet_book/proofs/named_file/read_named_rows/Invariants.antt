use Rattle.std.proofs.Common.{length}
use Rattle.std.specs.BTreeSet.{contains_text}
use Rattle.beet_book.proofs.NamedRows.{ReadSoFar}
use Rattle.beet_book.proofs.named_file.read_named_rows.Given as goal

abbrev pub invariant-loop-values : goal.invariant-loop-values
invariant-loop-values g l =
    ReadSoFar _ g.V.NamedRow.value_in l.fn.first l.fn.one_too_many l.fn.rows l.rows l.values.items (contains_text l.seen)

abbrev pub decreases-loop-values : goal.decreases-loop-values
decreases-loop-values g l = length l.rows
