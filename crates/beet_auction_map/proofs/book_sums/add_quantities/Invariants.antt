use Rattle.std.proofs.Common.{◌≡◌, ℕ, ◌<◌, ◌≤◌, ◌+◌, length, slice_index}
use Rattle.beet_auction_map.proofs.book_sums.add_quantities.Given as goal

abbrev pub invariant-loop-i : goal.invariant-loop-i
invariant-loop-i l = record {
  same_length : length l.sums ≡ length l.fn.sums;
  before : (k : ℕ) → k < l.i → slice_index l.sums k ≡ slice_index l.fn.sums k + slice_index l.fn.quantities k;
  after : (k : ℕ) → l.i ≤ k → slice_index l.sums k ≡ slice_index l.fn.sums k;
}
