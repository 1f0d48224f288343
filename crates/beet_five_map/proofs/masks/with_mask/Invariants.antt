use Rattle.std.proofs.Common.{◌≡◌, take}
use Rattle.std.specs.Prelude.{bit_xor}
use Rattle.beet_masking.specs.Masks.{mask_among}
use Rattle.beet_five_map.proofs.masks.with_mask.Given as goal

abbrev pub invariant-loop-list : goal.invariant-loop-list
invariant-loop-list l = l.with ≡ bit_xor l.fn.word (mask_among (take l.list-index l.masks) l.place)
