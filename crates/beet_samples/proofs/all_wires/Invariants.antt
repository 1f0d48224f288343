use Rattle.std.proofs.Common.{◌≡◌, length, map}
use Rattle.std.specs.List.{range_with_len}
use Rattle.beet_samples.proofs.all_wires.Given as goal

abbrev pub invariant-loop-k : goal.invariant-loop-k
invariant-loop-k l = record {
  so_far : l.wires.items ≡ map (λ k. k) (range_with_len 0 l.k);
  count : length l.wires.items ≡ l.k;
}
