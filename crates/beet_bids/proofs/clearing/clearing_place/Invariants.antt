use Rattle.std.proofs.Common.{◌≤◌, ◌-◌}
use Rattle.beet_bids.specs.Outcomes.{clearing_place}
use Rattle.beet_bids.proofs.clearing.clearing_place.Given as goal

abbrev pub invariant-loop-low : goal.invariant-loop-low
invariant-loop-low l = record {
  low : l.low ≤ clearing_place l.book;
  high : clearing_place l.book ≤ l.high;
  within : l.high ≤ l.book.grid.prices;
}

abbrev pub decreases-loop-low : goal.decreases-loop-low
decreases-loop-low l = l.high - l.low
