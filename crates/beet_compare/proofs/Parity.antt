-- The meaning of the answer of a comparison.
use Rattle.std.proofs.Common.{◌≡◌, ℕ, ◌+◌, ◌-◌, ◌%◌, ◌^◌, ◌<◌, ◌≤◌, inl, inr, Bool, true, false, refl, sym, ◌∙◌, arith, eq-eqb}
use Rattle.std.specs.Prelude.{nat_le, nat_lt, if◌then◌else◌, ◌↔◌, IsTrue}
use Rattle.std.specs.Int.{bit_at}
use Rattle.std.proofs.lemmas.Bool.{cases_Bool, iff_false}
use Rattle.std.proofs.lemmas.Bool.Decides.{nat_tests}
use Rattle.std.proofs.lemmas.Nat.Bits.{bit_at-lt, bit_at_lowest}
use Rattle.beet_gates.proofs.Between.{part-all}
use Rattle.beet_gates.proofs.Bits.{bit_cases}
use Rattle.beet_field.specs.Field.{IsElement}
use Rattle.beet_compare.specs.Compare.{doubled, is_doubled_even}
use Rattle.beet_compare.proofs.Borrow.{borrow, same, parity}

same-flipped : (c x : ℕ) → c < 2 → x < 2 → same (1 - c) x ≡ (c + x) % 2
same-flipped c x hc hx = elim (bit_cases c hc) [
  | inl e ↦ rw e (elim (bit_cases x hx) [ inl f ↦ rw f refl | inr f ↦ rw f refl ])
  | inr e ↦ rw e (elim (bit_cases x hx) [ inl f ↦ rw f refl | inr f ↦ rw f refl ])
]

whole_borrow : (c r : ℕ) → c < 2305843009213693951 → r < 2305843009213693951 → borrow c r 61 ≡ (if nat_lt c r then 1 else 0)
whole_borrow c r hc hr = rw (part-all c (omega arith), part-all r (omega arith)) refl

-- the answer is 1 where the masked number is even, else 0
pub answer-parity : (y r : ℕ) → y < 2305843009213693951 → r < 2305843009213693951 →
    (1 + same (1 - bit_at ((y + r) % 2305843009213693951) 0) (bit_at r 0) + borrow ((y + r) % 2305843009213693951) r 61) % 2 ≡ (1 + y) % 2
answer-parity y r hy hr =
    let c = (y + r) % 2305843009213693951 in
    let hc : c < 2305843009213693951 = omega arith in
    let flat : same (1 - bit_at c 0) (bit_at r 0) ≡ (c % 2 + r % 2) % 2 =
    same-flipped (bit_at c 0) (bit_at r 0) (bit_at-lt c 0) (bit_at-lt r 0) ∙ rw (bit_at_lowest c, bit_at_lowest r) refl in
    rw (flat, whole_borrow c r hc hr) (omega (arith, parity y r hy hr))

-- as the answer of a comparison
pub answer-even : (s d : ℕ) → (1 + doubled s d) % 2 ≡ (if is_doubled_even s d then 1 else 0)
answer-even s d = elim (bit_cases (doubled s d % 2) (omega arith)) [
  | inl e ↦ rw (eq-eqb (doubled s d % 2) 0 e) (omega (arith, e))
  | inr e ↦ rw e (omega (arith, e))
]

-- and that is where supply is at least demand
pub doubled_even-≤ : (s d : ℕ) → IsElement s → IsElement d → s < d + 2 ^ 59 → d < s + 2 ^ 59 → IsTrue (is_doubled_even s d) ↔ (d ≤ s)
doubled_even-≤ s d hs hd close near = grind (arith, nat_tests)

-- two tests agree where both say the same
pub same_test : (b : Bool) (s d : ℕ) → IsTrue b ↔ (d ≤ s) → b ≡ nat_le d s
same_test b s d e = elim (cases_Bool b) [
  | inl t ↦ let h = e.0 t in t ∙ (let le : nat_le d s ≡ true = grind (arith, nat_tests, h) in sym le)
  | inr f ↦ f ∙ (let h = iff_false e f in let le : nat_le d s ≡ false = grind (arith, nat_tests, h) in sym le)
]
