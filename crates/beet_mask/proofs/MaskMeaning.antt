-- The product of bits of a mask is 1 exactly where they are all ones.
use Rattle.std.proofs.Common.{◌≡◌, ℕ, ◌+◌, ◌^◌, ◌<◌, inl, inr, refl, ◌∙◌, lit<}
use Rattle.std.specs.Prelude.{◌==◌, if◌then◌else◌}
use Rattle.std.specs.Int.{bit_at}
use Rattle.std.proofs.lemmas.Nat.Bits.{bit_at-lt, bit_at_ones}
use Rattle.beet_field.specs.Field.{p}
use Rattle.beet_gates.proofs.Between.{same_between, same-one, part-all}
use Rattle.beet_gates.proofs.Bits.{bit_cases}

-- one bit
pub ones-bit : (r k : ℕ) → k < 61 → same_between r p k (k + 1) ≡ bit_at r k
ones-bit r k h =
    let one : bit_at p k ≡ 1 = bit_at_ones 61 k h in
    same-one r p k ∙ rw one (elim (bit_cases (bit_at r k) (bit_at-lt r k)) [ inl e ↦ rw e refl | inr e ↦ rw e refl ])

-- all 61
pub ones-all : (r : ℕ) → r < 2 ^ 61 → same_between r p 0 61 ≡ (if r == p then 1 else 0)
ones-all r h = rw (part-all r h, part-all p (lit< tt)) refl
