use Rattle.std.proofs.Common.{◌≡◌, ◌<◌, ◌+◌, ◌*◌, ℕ, None}
use Rattle.beet_shamir.specs.Line.{AreElements}
use Rattle.beet_book.specs.PointSums.{AddsUp}
use Rattle.beet_book.specs.Totals.{points_on}
use Rattle.beet_audit.specs.Audits.{OneBidder, points_from, points_of_bidder}
use Rattle.beet_audit.proofs.bidders.add_in_order.Given as goal

abbrev pub invariant-loop-place : goal.invariant-loop-place
invariant-loop-place l = record {
  prices : l.prices ≡ l.grid.prices;
  right : (k : ℕ) → k < l.place → OneBidder l.prices l.views (l.from + k) None;
  elements : (k : ℕ) → k < l.place → (n : ℕ) → n < 2 * l.prices →
      AreElements (points_on (points_of_bidder l.views (l.from + k)) n);
  sums : AddsUp l.grid l.totals (points_from l.views l.from l.place);
}
