-- The borrow from bit to bit, and the parity of the difference.
use Rattle.std.proofs.Common.{◌≡◌, ℕ, suc, ◌+◌, ◌-◌, ◌*◌, ◌/◌, ◌%◌, ◌^◌, ◌<◌, inl, inr, refl, sym, ◌∙◌, arith, add-one}
use Rattle.std.specs.Prelude.{nat_lt, if◌then◌else◌, ◌==◌}
use Rattle.std.specs.Int.{bit_at}
use Rattle.std.proofs.lemmas.Bool.Decides.{nat_tests}
use Rattle.std.proofs.lemmas.Nat.{shr-shr}
use Rattle.std.proofs.lemmas.Nat.Bits.{bit_at-lt}
use Rattle.beet_gates.proofs.Between.{less_between, same_between, less-splits, less-one, same-one}
use Rattle.beet_gates.proofs.Bits.{bit_cases}

-- 1 where the n lowest bits of c are below those of r, else 0
abbrev pub borrow : ℕ → ℕ → ℕ → ℕ
borrow c r n = less_between c r 0 n

-- the value of the wire where the bit is 1, and 1 less it where it is 0
abbrev pub same : ℕ → ℕ → ℕ
same c r = if c == 1 then r else 1 - r

pub same-lt : (c x : ℕ) → c < 2 → x < 2 → same c x < 2
same-lt c x hc hx = elim (bit_cases c hc) [ inl e ↦ rw e (omega arith) | inr e ↦ rw e hx ]

-- of one bit
less-of_bits : (c r : ℕ) → c < 2 → r < 2 → (if nat_lt c r then 1 else 0) ≡ (1 - c) * r
less-of_bits c r hc hr = elim (bit_cases c hc) [
  | inl e ↦ rw e (elim (bit_cases r hr) [ inl f ↦ rw f refl | inr f ↦ rw f refl ])
  | inr e ↦ rw e (elim (bit_cases r hr) [ inl f ↦ rw f refl | inr f ↦ rw f refl ])
]

same-of_bits : (c r : ℕ) → c < 2 → r < 2 → (if c == r then 1 else 0) ≡ same c r
same-of_bits c r hc hr = elim (bit_cases c hc) [
  | inl e ↦ rw e (elim (bit_cases r hr) [ inl f ↦ rw f refl | inr f ↦ rw f refl ])
  | inr e ↦ rw e (elim (bit_cases r hr) [ inl f ↦ rw f refl | inr f ↦ rw f refl ])
]

pub less-bit_at : (c r k : ℕ) → less_between c r k (k + 1) ≡ (1 - bit_at c k) * bit_at r k
less-bit_at c r k = less-one c r k ∙ less-of_bits (bit_at c k) (bit_at r k) (bit_at-lt c k) (bit_at-lt r k)

pub same-bit_at : (c r k : ℕ) → same_between c r k (k + 1) ≡ same (bit_at c k) (bit_at r k)
same-bit_at c r k = same-one c r k ∙ same-of_bits (bit_at c k) (bit_at r k) (bit_at-lt c k) (bit_at-lt r k)

-- the borrow of one bit more
pub borrow-suc : (c r k : ℕ) → borrow c r (suc k) ≡ (1 - bit_at c k) * bit_at r k + same (bit_at c k) (bit_at r k) * borrow c r k
borrow-suc c r k =
    let e : less_between c r k (k + 1) + same_between c r k (k + 1) * less_between c r 0 k ≡ less_between c r 0 (k + 1) =
    less-splits c r 0 k (k + 1) (omega arith) (omega arith) in
    sym (rw (less-bit_at c r k, same-bit_at c r k, add-one) at e)

-- the difference is odd where exactly one or all of the low bits and the borrow are 1
pub parity : (y r : ℕ) → y < 2305843009213693951 → r < 2305843009213693951 →
    (((y + r) % 2305843009213693951) % 2 + r % 2 + (if nat_lt ((y + r) % 2305843009213693951) r then 1 else 0)) % 2 ≡ y % 2
parity y r hy hr = grind (arith, nat_tests)

-- in the field: the equality of two bits
pub same-value : (c x w : ℕ) → c < 2 → x < 2 → (0 + 1 * x + 0 * w + 0 * w) % 2305843009213693951 ≡ x
same-value c x w hc hx = elim (bit_cases x hx) [ inl e ↦ rw e (omega arith) | inr e ↦ rw e (omega arith) ]

pub other-value : (x w : ℕ) → x < 2 → (1 + 2305843009213693950 * x + 0 * w + 0 * w) % 2305843009213693951 ≡ 1 - x
other-value x w hx = elim (bit_cases x hx) [ inl e ↦ rw e (omega arith) | inr e ↦ rw e (omega arith) ]

-- the borrow of one bit more
pub borrow-value : (c x m w : ℕ) → c < 2 → x < 2 → m < 2 → (c ≡ 0 → x ≡ 1 → m ≡ 0) →
    (0 + (1 - c) * x + 1 * m + 0 * w) % 2305843009213693951 ≡ (1 - c) * x + m
borrow-value c x m w hc hx hm one = elim (bit_cases c hc) [
  | inl e ↦ elim (bit_cases x hx) [
    | inl f ↦ rw (e, f) (omega arith)
    | inr f ↦ rw (e, f) (omega (arith, one e f))
  ]
  | inr e ↦ elim (bit_cases x hx) [
    | inl f ↦ rw (e, f) (omega arith)
    | inr f ↦ rw (e, f) (omega arith)
  ]
]

pub answer-value : (b g : ℕ) → b < 2 → g < 2 →
    (1 + 2305843009213693950 * b + 2305843009213693950 * g + 2 * (b * g)) % 2305843009213693951 ≡ (1 + b + g) % 2
answer-value b g hb hg = elim (bit_cases b hb) [
  | inl e ↦ rw e (elim (bit_cases g hg) [ inl f ↦ rw f refl | inr f ↦ rw f refl ])
  | inr e ↦ rw e (elim (bit_cases g hg) [ inl f ↦ rw f refl | inr f ↦ rw f refl ])
]

-- the high bits of the mask, one more
pub high-bits : (r j : ℕ) → r / 2 ^ j ≡ 2 * (r / 2 ^ (j + 1)) + bit_at r j
high-bits r j = let e : r / 2 ^ j / 2 ≡ r / 2 ^ (j + 1) = shr-shr r j 1 in rw (← e) (omega arith)

pub first-value : (c x w : ℕ) → c < 2 → x < 2 → (0 + (1 - c) * x + 0 * w + 0 * w) % 2305843009213693951 ≡ (1 - c) * x
first-value c x w hc hx = elim (bit_cases c hc) [
  | inl e ↦ elim (bit_cases x hx) [ inl f ↦ rw (e, f) (omega arith) | inr f ↦ rw (e, f) (omega arith) ]
  | inr e ↦ elim (bit_cases x hx) [ inl f ↦ rw (e, f) (omega arith) | inr f ↦ rw (e, f) (omega arith) ]
]
