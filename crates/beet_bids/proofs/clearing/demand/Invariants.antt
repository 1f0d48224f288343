use Rattle.std.proofs.Common.{◌≡◌, ◌*◌, ◌≤◌, take}
use Rattle.beet_bids.specs.declared.curve.TheConstants.{LARGEST_QUANTITY}
use Rattle.beet_bids.specs.Sums.{demand_at}
use Rattle.beet_bids.proofs.clearing.demand.Given as goal

abbrev pub invariant-loop-bidder : goal.invariant-loop-bidder
invariant-loop-bidder l = record {
  summed : l.sum ≡ demand_at (take l.bidder-index l.book.bidders) l.place;
  within : l.sum ≤ LARGEST_QUANTITY * l.bidder-index;
}
