use Rattle.std.proofs.Common.{◌≡◌, ◌++◌, map, take, drop, length}
use Rattle.beet_gates.specs.Clear.{product_of}
use Rattle.beet_gates.specs.Scripts.{PairsBelow}
use Rattle.beet_gates.proofs.clear.append_products.Given as goal

abbrev pub invariant-loop-pair : goal.invariant-loop-pair
invariant-loop-pair l = record {
  so_far : l.wires.items ≡ l.initial.wires.items ++ map (product_of l.initial.wires.items) (take l.pair-index l.pairs);
  below : PairsBelow (length l.initial.wires.items) (drop l.pair-index l.pairs);
}
