use Rattle.std.proofs.Common.{◌≤◌, ◌≡◌, drop, length, vec_capacity}
use Rattle.beet_load.proofs.KeptFarmers.{KeepsBids}
use Rattle.beet_load.proofs.curves.read_bids.Given as goal

abbrev pub invariant-loop-entry : goal.invariant-loop-entry
invariant-loop-entry g l = record {
  kept : KeepsBids l.fn.grid l.fn.entries (drop l.entry-index l.fn.entries) (g.S.Shelf.seen l.fn.shelf)
      (g.S.Shelf.seen l.shelf) l.bidders.items;
  count : length l.bidders.items ≡ l.entry-index;
  room : length l.fn.entries ≤ vec_capacity l.bidders;
}
