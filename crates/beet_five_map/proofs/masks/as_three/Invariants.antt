use Rattle.std.proofs.Common.{◌≡◌, ◌<◌, ℕ, length, slice_index}
use Rattle.std.specs.Prelude.{bit_xor}
use Rattle.beet_masking.specs.Masks.{mask_among}
use Rattle.beet_five_map.proofs.masks.as_three.Given as goal

abbrev pub invariant-loop-i : goal.invariant-loop-i
invariant-loop-i l = record {
  count : length l.others ≡ l.i;
  others : (k : ℕ) → k < l.i → slice_index l.others k ≡ bit_xor (slice_index l.words k) (mask_among l.masks k);
}
