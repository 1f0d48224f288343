-- Bits as numbers of the field.
use Rattle.std.proofs.Common.{◌≡◌, ℕ, zero, suc, ◌+◌, ◌*◌, ◌%◌, ◌<◌, ◌⊎◌, inl, inr, refl, arith}
use Rattle.beet_field.specs.Field.{mul_of}

pub bit_cases : (b : ℕ) → b < 2 → (b ≡ 0) ⊎ (b ≡ 1)
bit_cases zero h = inl refl
bit_cases (suc zero) h = inr refl
bit_cases (suc (suc n)) h = absurd (omega arith)

-- the product of two bits is that of the numbers
pub mul_of-bits : (x y : ℕ) → x < 2 → y < 2 → mul_of x y ≡ x * y
mul_of-bits x y h k = elim (bit_cases x h) [
  | inl e ↦ rw e (elim (bit_cases y k) [ inl f ↦ rw f refl | inr f ↦ rw f refl ])
  | inr e ↦ rw e (elim (bit_cases y k) [ inl f ↦ rw f refl | inr f ↦ rw f refl ])
]

-- x + y - 2xy is the exclusive or
pub xor_sum : (x y : ℕ) → x < 2 → y < 2 →
    (0 + 1 * x + 1 * y + 2305843009213693949 * (x * y)) % 2305843009213693951 ≡ (x + y) % 2
xor_sum x y h k = elim (bit_cases x h) [
  | inl e ↦ rw e (elim (bit_cases y k) [ inl f ↦ rw f refl | inr f ↦ rw f refl ])
  | inr e ↦ rw e (elim (bit_cases y k) [ inl f ↦ rw f refl | inr f ↦ rw f refl ])
]
