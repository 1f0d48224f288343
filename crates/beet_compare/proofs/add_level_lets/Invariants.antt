use Rattle.std.proofs.Common.{◌≡◌, ◌+◌, map, take, length}
use Rattle.beet_gates.specs.Levels.{wire_of}
use Rattle.beet_gates.specs.Linears.{two_terms}
use Rattle.beet_compare.proofs.add_level_lets.Given as goal

abbrev pub invariant-loop-low : goal.invariant-loop-low
invariant-loop-low g l = record {
  so_far : l.lets.items ≡ map (λ place. two_terms 0 (1, wire_of l.less place.1) (1, l.products + place.0)) (take l.low-index l.low-items);
  count : length l.lets.items ≡ l.low-index;
}
