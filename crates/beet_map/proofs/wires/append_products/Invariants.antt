use Rattle.std.proofs.Common.{◌≡◌, ◌++◌}
use Rattle.beet_gates.specs.Each.{each}
use Rattle.beet_map.specs.Steps.{product_line}
use Rattle.beet_map.proofs.wires.append_products.Given as goal

abbrev pub invariant-loop-k : goal.invariant-loop-k
invariant-loop-k l = l.lines.items ≡ l.initial.lines.items ++ each (product_line l.pairs l.wires l.numbers l.drawn) l.k
