-- Which of the masks are compared, and with what.
use Rattle.std.specs.Prelude.{ℕ, List, length, slice_get, Option, None, nat_le, if◌then◌else◌}
use Rattle.beet_masking.specs.declared.TheConstants.{SPARE_MASKS}
use Rattle.beet_masking.specs.Masks.{is_accepted, rejected_among, accepted_among}

-- what a mask is compared for, if it is: if it is accepted, after no more rejected ones than may be, what comes
-- after those of the masks that were accepted before
abbrev pub item_after : {A : Type 0} → List A → ℕ → ℕ → ℕ → Option A
item_after items mask rejected accepted =
    if is_accepted mask then (if nat_le rejected SPARE_MASKS then slice_get items accepted else None) else None

-- that of the i-th mask
abbrev pub item_compared : {A : Type 0} → List A → (ℕ → ℕ) → ℕ → Option A
item_compared items masks i =
    item_after items (masks i) (length (rejected_among masks i)) (length (accepted_among masks i))
