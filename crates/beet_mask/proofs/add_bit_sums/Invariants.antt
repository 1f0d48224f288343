use Rattle.std.proofs.Common.{◌≡◌, ◌+◌, length}
use Rattle.beet_gates.specs.Each.{each}
use Rattle.beet_mask.specs.Mask.{xor_let}
use Rattle.beet_mask.proofs.add_bit_sums.Given as goal

abbrev pub invariant-loop-k : goal.invariant-loop-k
invariant-loop-k l = record {
  so_far : l.lets.items ≡ each (λ k. xor_let (l.left + k) (l.right + k) (l.product + k)) l.k;
  count : length l.lets.items ≡ l.k;
}
