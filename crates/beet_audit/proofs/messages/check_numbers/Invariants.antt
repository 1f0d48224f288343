use Rattle.std.proofs.Common.{◌≡◌, ◌<◌, ℕ, length, slice_index}
use Rattle.beet_audit.proofs.messages.check_numbers.Given as goal

abbrev pub invariant-loop-place : goal.invariant-loop-place
invariant-loop-place l = record {
  end : l.count ≡ length l.sent;
  same : (k : ℕ) → k < l.place → slice_index l.held k ≡ slice_index l.sent k;
}
