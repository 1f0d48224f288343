use Rattle.std.proofs.Common.{◌≡◌, length, slice_index}
use Rattle.beet_shamir.specs.Line.{point_of}
use Rattle.beet_gates.specs.Each.{each}
use Rattle.beet_server.proofs.lines.hide.Given as goal

abbrev pub invariant-loop-k : goal.invariant-loop-k
invariant-loop-k l = record {
  so_far : l.numbers.items ≡ each (λ k. point_of (slice_index l.values k) (slice_index l.slopes k) l.to) l.k;
  end : l.k-end ≡ length l.values;
  len : length l.numbers.items ≡ l.k;
}
