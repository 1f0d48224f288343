use Rattle.std.proofs.Common.{◌≡◌, ◌+◌, ◌*◌, ◌%◌, ℕ, ◌<◌, ◌≤◌, length, get_or}
use Rattle.beet_field.specs.Field.{p}
use Rattle.beet_five_dealing.proofs.summing.add_shares.Given as goal

abbrev pub invariant-loop-i : goal.invariant-loop-i
invariant-loop-i g l = record {
  same_length : length l.sums ≡ length l.fn.sums;
  before : (k : ℕ) → k < l.i → get_or l.sums k 0
      ≡ (get_or l.fn.sums k 0 + get_or l.fn.values k 0
      + g.row.AT * ((get_or l.fn.numbers (2 * k) 0 + g.row.AT * get_or l.fn.numbers (2 * k + 1) 0) % p)) % p;
  after : (k : ℕ) → l.i ≤ k → get_or l.sums k 0 ≡ get_or l.fn.sums k 0;
}
