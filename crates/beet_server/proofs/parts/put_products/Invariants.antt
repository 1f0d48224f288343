use Rattle.std.proofs.Common.{◌≡◌, map, take, drop, length}
use Rattle.beet_gates.specs.Clear.{product_of}
use Rattle.beet_gates.specs.Scripts.{PairsBelow}
use Rattle.beet_server.proofs.parts.put_products.Given as goal

abbrev pub invariant-loop-pair : goal.invariant-loop-pair
invariant-loop-pair l = record {
  so_far : l.numbers.items ≡ map (product_of l.wires) (take l.pair-index l.pairs);
  len : length l.numbers.items ≡ l.pair-index;
  below : PairsBelow (length l.wires) (drop l.pair-index l.pairs);
}
