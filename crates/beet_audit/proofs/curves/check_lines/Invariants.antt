use Rattle.std.proofs.Common.{◌<◌, ◌+◌, ℕ}
use Rattle.beet_shamir.specs.Line.{AreElements, IsLine}
use Rattle.beet_book.specs.Totals.{points_on}
use Rattle.beet_audit.specs.Audits.{first_of, points_of_bidder}
use Rattle.beet_audit.proofs.curves.check_lines.Given as goal

abbrev pub invariant-loop-place : goal.invariant-loop-place
invariant-loop-place l = record {
  lines : (k : ℕ) → k < l.place → IsLine (points_on (points_of_bidder l.views l.bidder) (first_of l.prices l.side + k));
  elements : (k : ℕ) → k < l.place → AreElements (points_on (points_of_bidder l.views l.bidder) (first_of l.prices l.side + k));
}
