use Rattle.std.proofs.Common.{◌≡◌, ℕ, ◌<◌, length, slice_index, take}
use Rattle.beet_auction_map.specs.InputLines.{summed_slope}
use Rattle.beet_auction_map.proofs.inputs.summed_slopes.Given as goal

abbrev pub invariant-loop-list : goal.invariant-loop-list
invariant-loop-list l = record {
  count : length l.sums.items ≡ l.count;
  summed : (k : ℕ) → k < l.count → slice_index l.sums.items k ≡ summed_slope (take l.list-index l.words) k;
}
