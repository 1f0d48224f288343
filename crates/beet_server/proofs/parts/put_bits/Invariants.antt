use Rattle.std.proofs.Common.{◌≡◌, length}
use Rattle.std.specs.Int.{bit_at}
use Rattle.beet_gates.specs.Each.{each}
use Rattle.beet_server.proofs.parts.put_bits.Given as goal

abbrev pub invariant-loop-k : goal.invariant-loop-k
invariant-loop-k l = record {
  so_far : l.numbers.items ≡ each (bit_at l.word) l.k;
  len : length l.numbers.items ≡ l.k;
}
