use Rattle.std.proofs.Common.{◌≡◌, ◌≤◌, ◌<◌, ℕ, length, slice_index}
use Rattle.beet_masking.specs.Masks.{mask_at, rejected_among}
use Rattle.beet_turned.specs.MappedMasks.{loss_in, word_mapped}
use Rattle.beet_turned.proofs.masks.turning_words.Given as goal

abbrev pub invariant-loop-i : goal.invariant-loop-i
invariant-loop-i l = record {
  count : length l.turned ≡ l.i;
  rejected : l.rejected ≡ length (rejected_among (mask_at l.masks) l.i);
  few : l.rejected ≤ l.i;
  turns : (k : ℕ) → k < l.i → slice_index l.turned k
      ≡ word_mapped (mask_at l.masks k) (slice_index l.words k) (loss_in l.losses l.masks k);
}
