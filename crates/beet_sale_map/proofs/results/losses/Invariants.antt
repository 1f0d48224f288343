use Rattle.std.proofs.Common.{◌≡◌, ◌≤◌, ◌-◌, ◌++◌, map, length, slice_index}
use Rattle.std.specs.List.{zip}
use Rattle.beet_sale_plan.specs.Kept.{compared_from}
use Rattle.beet_sale_map.specs.Bids.{bids_of}
use Rattle.beet_sale_map.specs.KeptBids.{AreSmall}
use Rattle.beet_sale_map.specs.Losses.{lost}
use Rattle.beet_sale_map.specs.Worlds.{losses_between}
use Rattle.beet_sale_map.proofs.results.losses.Given as goal

abbrev pub invariant-loop-i : goal.invariant-loop-i
invariant-loop-i l = record {
  end : l.i-end ≡ length l.first;
  some : 1 ≤ l.i;
  small : AreSmall l.here;
  small' : AreSmall l.there;
  so_far : l.losses.items
      ++ map lost (zip (compared_from (slice_index (bids_of l.first)) (length l.first - l.i) l.i l.here)
      (compared_from (slice_index (bids_of l.second)) (length l.first - l.i) l.i l.there))
      ≡ losses_between l.first l.second;
}
