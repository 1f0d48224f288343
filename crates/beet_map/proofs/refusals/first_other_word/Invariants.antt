use Rattle.std.proofs.Common.{◌≡◌, ◌<◌, ℕ, slice_get, take}
use Rattle.beet_map.proofs.refusals.first_other_word.Given as goal

abbrev pub invariant-loop-place : goal.invariant-loop-place
invariant-loop-place l = (k : ℕ) → k < l.place → slice_get (take l.count l.first) k ≡ slice_get (take l.count l.second) k
