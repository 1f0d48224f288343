use Rattle.std.proofs.Common.{◌≡◌, ℕ, ◌<◌, ◌≤◌, length, get_or}
use Rattle.beet_field.specs.Field.{add_of, mul_of}
use Rattle.beet_book.proofs.summing.add_lines.Given as goal

abbrev pub invariant-loop-i : goal.invariant-loop-i
invariant-loop-i g l = record {
  same_length : length l.sums ≡ length l.fn.sums;
  before : (k : ℕ) → k < l.i → get_or l.sums k 0
      ≡ add_of (get_or l.fn.sums k 0) (add_of (get_or l.fn.values k 0) (mul_of (get_or l.fn.slopes k 0) g.row.AT));
  after : (k : ℕ) → l.i ≤ k → get_or l.sums k 0 ≡ get_or l.fn.sums k 0;
}
