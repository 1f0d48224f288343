use Rattle.std.proofs.Common.{◌≡◌, ◌+◌, ◌++◌, map, slice_index}
use Rattle.beet_bids.specs.Sums.{supply_at, demand_at}
use Rattle.beet_gates.specs.Each.{each}
use Rattle.beet_shamir.specs.declared.Line.{Line}
use Rattle.beet_auction_map.proofs.inputs.lines_with.Given as goal

abbrev pub invariant-loop-place : goal.invariant-loop-place
invariant-loop-place l = record {
  values : map (λ (x : Line). x.value) l.lines.items ≡ each (supply_at l.book.bidders) l.place;
  slopes : map (λ (x : Line). x.slope) l.lines.items ≡ each (λ k. slice_index l.slopes (l.prices + k)) l.place;
}

abbrev pub invariant-loop-place-2 : goal.invariant-loop-place-2
invariant-loop-place-2 l = record {
  values : map (λ (x : Line). x.value) l.lines.items ≡ each (supply_at l.book.bidders) l.prices ++ each (demand_at l.book.bidders) l.place;
  slopes : map (λ (x : Line). x.slope) l.lines.items
      ≡ each (λ k. slice_index l.slopes (l.prices + k)) l.prices ++ each (slice_index l.slopes) l.place;
}
