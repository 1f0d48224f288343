use Rattle.std.proofs.Common.{◌≡◌, ◌+◌, ◌-◌, ◌*◌, length}
use Rattle.std.specs.Int.{bit_at}
use Rattle.beet_gates.specs.Each.{each, by_turns}
use Rattle.beet_gates.specs.Linears.{one_term}
use Rattle.beet_compare.specs.Compare.{same_let}
use Rattle.beet_compare.proofs.add_bits.Given as goal

abbrev pub invariant-loop-k : goal.invariant-loop-k
invariant-loop-k l = record {
  so_far : l.lets.items ≡ each (by_turns (λ k. one_term 0 (1 - bit_at l.c k, l.mask + 366 + k))
      (λ k. same_let (bit_at l.c k) (l.mask + 366 + k))) (2 * l.k);
  count : length l.lets.items ≡ 2 * l.k;
}
