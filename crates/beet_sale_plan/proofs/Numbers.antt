-- What a selection makes of numbers.
use Rattle.std.proofs.Common.{◌≡◌, ℕ, ◌+◌, ◌-◌, ◌*◌, ◌%◌, ◌^◌, ◌<◌, inl, inr, true, false, refl, ◌∙◌, arith}
use Rattle.std.specs.Prelude.{nat_le, min, max, if◌then◌else◌}
use Rattle.std.proofs.lemmas.Bool.{cases_lt}
use Rattle.std.proofs.lemmas.Bool.Decides.{nat_tests}
use Rattle.beet_field.specs.Field.{p, mul_of}
use Rattle.beet_compare.specs.Compare.{is_doubled_even}
use Rattle.beet_compare.proofs.Parity.{doubled_even-≤, same_test}
use Rattle.beet_sale_plan.specs.Kept.{Kept, kept_after}

-- the result of a comparison of small numbers
pub reached : (a b : ℕ) → a < 2 ^ 48 → b < 2 ^ 48 → is_doubled_even a b ≡ nat_le b a
reached a b ha hb = same_test (is_doubled_even a b) a b
    (doubled_even-≤ a b (omega arith) (omega arith) (omega arith) (omega arith))

abbrev pub bit_of : ℕ → ℕ → ℕ
bit_of a b = if is_doubled_even a b then 1 else 0

-- x - y, x + y and x + y - z modulo p, with a term that is left empty
abbrev pub difference : ℕ → ℕ → ℕ → ℕ
difference x y e = (0 + 1 * x + (p - 1) * y + 0 * e) % p

abbrev pub sum : ℕ → ℕ → ℕ → ℕ
sum x y e = (0 + 1 * x + 1 * y + 0 * e) % p

abbrev pub rest : ℕ → ℕ → ℕ → ℕ
rest x y z = (0 + 1 * x + 1 * y + (p - 1) * z) % p

-- x less a number, and with it added
abbrev pub less : ℕ → ℕ → ℕ → ℕ → ℕ
less n x e h = (p - n + 1 * x + 0 * e + 0 * h) % p

abbrev pub more : ℕ → ℕ → ℕ → ℕ → ℕ
more n x e h = (n + 1 * x + 0 * e + 0 * h) % p

-- b + (a reaches b) * (a - b) is the greater of both
pub selected-greater : (a b e h : ℕ) → a < 2 ^ 48 → b < 2 ^ 48 → sum b (mul_of (bit_of a b) (difference a b e)) h ≡ max b a
selected-greater a b e h ha hb = elim (cases_lt a b) [
  | inl lt ↦ let t : is_doubled_even a b ≡ false = reached a b ha hb ∙ grind (arith, nat_tests) in rw t (omega arith)
  | inr le ↦ let t : is_doubled_even a b ≡ true = reached a b ha hb ∙ grind (arith, nat_tests) in rw t (omega arith)
]

-- i + (a reaches b) * (who - i)
pub selected-who : (a b who i e h e' h' : ℕ) → a < 2 ^ 48 → b < 2 ^ 48 → who < 2 ^ 48 → i < 2 ^ 48 →
    more i (mul_of (bit_of a b) (less i who e h)) e' h' ≡ (if nat_le b a then who else i)
selected-who a b who i e h e' h' ha hb hw hi = elim (cases_lt a b) [
  | inl lt ↦
      let l : nat_le b a ≡ false = grind (arith, nat_tests) in
      let t : is_doubled_even a b ≡ false = reached a b ha hb ∙ l in
      rw (t, l) (omega arith)
  | inr le ↦
      let l : nat_le b a ≡ true = grind (arith, nat_tests) in
      let t : is_doubled_even a b ≡ true = reached a b ha hb ∙ l in
      rw (t, l) (omega arith)
]

-- a + b less the greater is the lesser
pub rest-lesser : (a b : ℕ) → a < 2 ^ 48 → b < 2 ^ 48 → rest a b (max b a) ≡ min a b
rest-lesser a b ha hb = omega arith

-- so what is kept moves on
pub kept-best : (k : Kept) (b i : ℕ) → (kept_after k b i).best ≡ max b k.best
kept-best k b i = elim (cases_lt k.best b) [
  | inl lt ↦ let l : nat_le b k.best ≡ false = grind (arith, nat_tests) in rw l (omega arith)
  | inr le ↦ let l : nat_le b k.best ≡ true = grind (arith, nat_tests) in rw l (omega arith)
]

pub kept-who : (k : Kept) (b i : ℕ) → (kept_after k b i).who ≡ (if nat_le b k.best then k.who else i)
kept-who k b i = elim (cases_lt k.best b) [
  | inl lt ↦ let l : nat_le b k.best ≡ false = grind (arith, nat_tests) in rw l refl
  | inr le ↦ let l : nat_le b k.best ≡ true = grind (arith, nat_tests) in rw l refl
]

pub kept-next : (k : Kept) (b i : ℕ) → (kept_after k b i).next ≡ max (min k.best b) k.next
kept-next k b i = elim (cases_lt k.best b) [
  | inl lt ↦ let l : nat_le b k.best ≡ false = grind (arith, nat_tests) in rw l (omega arith)
  | inr le ↦ let l : nat_le b k.best ≡ true = grind (arith, nat_tests) in rw l (omega arith)
]

pub kept-small : (k : Kept) (b i : ℕ) → k.who < 2 ^ 48 → i < 2 ^ 48 → (kept_after k b i).who < 2 ^ 48
kept-small k b i hw hi = elim (cases_lt k.best b) [
  | inl lt ↦ let l : nat_le b k.best ≡ false = grind (arith, nat_tests) in rw l hi
  | inr le ↦ let l : nat_le b k.best ≡ true = grind (arith, nat_tests) in rw l hw
]
