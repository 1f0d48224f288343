use Rattle.std.proofs.Common.{◌≡◌}
use Rattle.beet_books_tests.proofs.tests.book.inputs_of_many.Given as goal

abbrev pub invariant-loop-number : goal.invariant-loop-number
invariant-loop-number g l = l.totals.prices ≡ l.grid.prices
