use Rattle.std.proofs.Common.{◌≡◌, ◌<◌, ℕ, length, max, slice_get}
use Rattle.beet_map.proofs.refusals.first_difference.Given as goal

abbrev pub invariant-loop-place : goal.invariant-loop-place
invariant-loop-place l = record {
  before : (k : ℕ) → k < l.place → slice_get l.first k ≡ slice_get l.second k;
  end : l.place-end ≡ max (length l.first) (length l.second);
}
