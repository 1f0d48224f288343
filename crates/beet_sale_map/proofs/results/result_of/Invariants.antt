use Rattle.std.proofs.Common.{◌≡◌, ◌≤◌, ◌-◌, length, slice_index}
use Rattle.beet_sale_plan.proofs.SaleFacts.{kept_all, kept_of}
use Rattle.beet_sale_map.specs.Bids.{bids_of}
use Rattle.beet_sale_map.specs.KeptBids.{AreSmall}
use Rattle.beet_sale_map.proofs.results.result_of.Given as goal

abbrev pub invariant-loop-i : goal.invariant-loop-i
invariant-loop-i l = record {
  end : l.i-end ≡ length l.bids;
  some : 1 ≤ l.i;
  small : AreSmall l.kept;
  rest : kept_all (slice_index (bids_of l.bids)) (length l.bids - l.i) l.i l.kept
      ≡ kept_of (slice_index (bids_of l.bids)) (length l.bids - 1);
}
