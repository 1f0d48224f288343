use Rattle.std.proofs.Common.{◌≡◌, map, take, length}
use Rattle.beet_gates.specs.Levels.{wire_of}
use Rattle.beet_mask.proofs.products_in_pairs.Given as goal

abbrev pub invariant-loop-left : goal.invariant-loop-left
invariant-loop-left g l = record {
  so_far : l.pairs.items ≡ map (λ place. (wire_of l.items place.0, wire_of l.items place.1)) (take l.left-index l.left-items);
  count : length l.pairs.items ≡ l.left-index;
}
