-- Masks until one is accepted, and the rounds of a run of comparisons with them.
use Rattle.std.specs.Prelude.{◌+◌, ◌-◌, ◌*◌, ◌==◌, ℕ, zero, suc, if◌then◌else◌}
use Rattle.beet_gates.specs.Plans.{Plan, Ended, Block}
use Rattle.beet_masking.specs.Blocks.{Blocks, after_mask}
use Rattle.beet_masking.specs.Masks.{is_spent, dealt_until_spent, dealt_for}
use Rattle.beet_masking.specs.declared.TheConstants.{SPARE_MASKS}

-- masks are dealt until one is accepted, of which so many may be rejected, and one rejected mask more ends it; the rest
-- is told by how many may still be rejected, and by the first wire of the accepted mask
unfoldable pub until_accepted : {F : Type 0} → Blocks → F → ℕ → ℕ → (ℕ → ℕ → Plan F) → Plan F
until_accepted blocks spent zero first next =
    Block (blocks.mask first) (λ product. if product == 1 then Ended spent else next zero first)
until_accepted blocks spent (suc spare) first next =
    Block (blocks.mask first)
    (λ product. if product == 1 then until_accepted blocks spent spare (after_mask blocks first) next
    else next (suc spare) first)

-- how they go on after the opened product of a mask's bits
abbrev pub after_product : {F : Type 0} → Blocks → F → ℕ → ℕ → (ℕ → ℕ → Plan F) → ℕ → Plan F
after_product blocks spent spare first next product =
    if product == 1 then
    (if spare == 0 then Ended spent else until_accepted blocks spent (spare - 1) (after_mask blocks first) next)
    else next spare first

-- the most rounds of a run that makes so many comparisons, and goes on for so many rounds after them
abbrev pub most_rounds_for : Blocks → ℕ → ℕ → ℕ
most_rounds_for blocks comparisons last =
    comparisons * (blocks.mask_rounds + blocks.compare_rounds) + SPARE_MASKS * blocks.mask_rounds + last

-- the number of rounds of a run that makes c comparisons, if it can, and goes on for so many rounds after them: of the
-- masks that are dealt, and of the comparisons with the accepted ones
abbrev pub masked_rounds : Blocks → (ℕ → ℕ) → ℕ → ℕ → ℕ
masked_rounds blocks masks c last =
    if is_spent masks c then
    blocks.mask_rounds * dealt_until_spent masks c
    + blocks.compare_rounds * (dealt_until_spent masks c - (SPARE_MASKS + 1))
    else blocks.mask_rounds * dealt_for masks c + blocks.compare_rounds * c + last
