use Rattle.std.proofs.Common.{◌≡◌, ℕ, ◌+◌, ◌<◌, ◌≤◌, length, slice_index}
use Rattle.beet_gates.specs.Draws.{draws_in, secret_of}
use Rattle.beet_map.specs.Mapped.{moved_of}
use Rattle.beet_map.proofs.moving.move_numbers.Given as goal

abbrev pub invariant-loop-k : goal.invariant-loop-k
invariant-loop-k l = record {
  moves : (k : ℕ) → k < l.k →
      slice_index l.numbers (l.drawn + k) ≡ moved_of l.me (slice_index l.fn.numbers (l.drawn + k))
      (secret_of l.act l.first.points.now l.first.word k) (secret_of l.act l.second.points.now l.second.word k);
  below : (n : ℕ) → n < l.drawn → slice_index l.numbers n ≡ slice_index l.fn.numbers n;
  beyond : (n : ℕ) → l.drawn + l.k ≤ n → slice_index l.numbers n ≡ slice_index l.fn.numbers n;
  end : l.k-end ≡ draws_in l.act;
  len : length l.numbers ≡ length l.fn.numbers;
}
