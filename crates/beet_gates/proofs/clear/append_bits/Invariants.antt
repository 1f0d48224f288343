use Rattle.std.proofs.Common.{◌≡◌, ◌++◌}
use Rattle.std.specs.Int.{bit_at}
use Rattle.beet_gates.specs.Each.{each}
use Rattle.beet_gates.proofs.clear.append_bits.Given as goal

abbrev pub invariant-loop-k : goal.invariant-loop-k
invariant-loop-k l = l.wires.items ≡ l.initial.wires.items ++ each (bit_at l.word) l.k
