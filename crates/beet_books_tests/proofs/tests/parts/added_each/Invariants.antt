use Rattle.std.proofs.Common.{◌≡◌}
use Rattle.beet_books_tests.proofs.tests.parts.added_each.Given as goal

abbrev pub invariant-loop-bidder : goal.invariant-loop-bidder
invariant-loop-bidder g l = l.totals.prices ≡ l.grid.prices
