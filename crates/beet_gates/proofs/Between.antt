-- Two numbers compared on a segment of their bits: that of a segment from those of its two parts.
use Rattle.std.proofs.Common.{◌≡◌, ℕ, ◌+◌, ◌-◌, ◌*◌, ◌/◌, ◌%◌, ◌^◌, ◌<◌, ◌≤◌, inl, inr, suc, refl, mul_comm, suc-mul}
use Rattle.std.proofs.Common.{zero-mul, mul-zero, arith, eq-eqb, ne_eqb}
use Rattle.std.specs.Prelude.{nat_lt, ◌==◌, if◌then◌else◌}
use Rattle.std.specs.Int.{bit_at}
use Rattle.std.proofs.lemmas.Bool.{cases_lt, cases_eq}
use Rattle.std.proofs.lemmas.Bool.Decides.{nat_tests}
use Rattle.std.proofs.lemmas.Nat.{mod-pow-add, mod_below, mul-le, pow_pos, same_from_place, shr-shr}
use Rattle.beet_gates.proofs.LevelFacts.{Splits}

-- the number that the bits of n from place a to before place b make
abbrev pub part : ℕ → ℕ → ℕ → ℕ
part n a b = n / 2 ^ a % 2 ^ (b - a)

-- 1 where c and r are the same on these bits, else 0
abbrev pub same_between : ℕ → ℕ → ℕ → ℕ → ℕ
same_between c r a b = if part c a b == part r a b then 1 else 0

-- 1 where c is below r on these bits, else 0
abbrev pub less_between : ℕ → ℕ → ℕ → ℕ → ℕ
less_between c r a b = if nat_lt (part c a b) (part r a b) then 1 else 0

-- a part is made of two
parts : (n a b d : ℕ) → a ≤ b → b ≤ d → part n a d ≡ part n b d * 2 ^ (b - a) + part n a b
parts n a b d h k =
    let whole : d - a ≡ d - b + (b - a) = omega arith in
    let place : a + (b - a) ≡ b = omega arith in
    rw whole (rw (shr-shr n a (b - a), place) at (mod-pow-add (n / 2 ^ a) (d - b) (b - a)))

-- of two numbers with a high and a low part
same-parts : (m hc lc hr lr : ℕ) → lc < m → lr < m →
    (if hc == hr then 1 else 0) * (if lc == lr then 1 else 0) ≡ (if hc * m + lc == hr * m + lr then 1 else 0)
same-parts m hc lc hr lr h k = elim (cases_eq hc hr) [
  | inl e ↦ elim (cases_eq lc lr) [
    | inl f ↦ rw (eq-eqb lc lr f, eq-eqb hc hr e, eq-eqb (hc * m + lc) (hr * m + lr) (rw (e, f) refl)) refl
    | inr f ↦
        rw (ne_eqb lc lr f, ne_eqb (hc * m + lc) (hr * m + lr) (λ q. f (same_from_place hc lc hr lr m h k q).1))
        (mul-zero (if hc == hr then 1 else 0))
  ]
  | inr e ↦
      rw (ne_eqb hc hr e, ne_eqb (hc * m + lc) (hr * m + lr) (λ q. e (same_from_place hc lc hr lr m h k q).0))
      (zero-mul (if lc == lr then 1 else 0))
]

-- a high part that is below makes the whole be below
above : (m hc lc hr lr : ℕ) → lc < m → hc < hr → hc * m + lc < hr * m + lr
above m hc lc hr lr h below = omega (arith, mul-le (suc hc) m hr m below (omega arith), suc-mul hc m)

less-parts : (m hc lc hr lr : ℕ) → lc < m → lr < m →
    (if nat_lt hc hr then 1 else 0) + (if hc == hr then 1 else 0) * (if nat_lt lc lr then 1 else 0)
    ≡ (if nat_lt (hc * m + lc) (hr * m + lr) then 1 else 0)
less-parts m hc lc hr lr h k = elim (cases_lt hc hr) [
  | inl below ↦ let far = above m hc lc hr lr h below in grind (arith, nat_tests, far)
  | inr rest ↦ elim (cases_eq hc hr) [
    | inl e ↦ rw e (grind (arith, nat_tests))
    | inr e ↦ let far = above m hr lr hc lc k (omega (arith, rest, e)) in grind (arith, nat_tests, far)
  ]
]

-- of a segment from its two parts: the numbers are the same on it where they are so on both, and the one is below the other where it is so
-- on the high part, or they are the same there and it is so on the low part
pub same-splits : (c r : ℕ) → Splits (λ low high. low * high) (same_between c r)
same-splits c r a b d h k =
    let m = 2 ^ (b - a) in
    rw (mul_comm (same_between c r a b) (same_between c r b d), parts c a b d h k, parts r a b d h k)
    (same-parts m (part c b d) (part c a b) (part r b d) (part r a b) (mod_below (c / 2 ^ a) m (pow_pos (b - a)))
    (mod_below (r / 2 ^ a) m (pow_pos (b - a))))

pub less-splits : (c r a b d : ℕ) → a ≤ b → b ≤ d →
    less_between c r b d + same_between c r b d * less_between c r a b ≡ less_between c r a d
less-splits c r a b d h k =
    let m = 2 ^ (b - a) in
    rw (parts c a b d h k, parts r a b d h k)
    (less-parts m (part c b d) (part c a b) (part r b d) (part r a b) (mod_below (c / 2 ^ a) m (pow_pos (b - a)))
    (mod_below (r / 2 ^ a) m (pow_pos (b - a))))

-- both, and how they are combined
abbrev pub less_and_same : ℕ → ℕ → ℕ → ℕ → ℕ × ℕ
less_and_same c r a b = (less_between c r a b, same_between c r a b)

abbrev pub combined : ℕ × ℕ → ℕ × ℕ → ℕ × ℕ
combined low high = (high.0 + high.1 * low.0, high.1 * low.1)

pub both-split : (c r : ℕ) → Splits combined (less_and_same c r)
both-split c r a b d h k =
    rw (less-splits c r a b d h k, mul_comm (same_between c r b d) (same_between c r a b), same-splits c r a b d h k) refl

-- they are bits
pub same-bit : (c r a b : ℕ) → same_between c r a b < 2
same-bit c r a b = elim (cases_eq (part c a b) (part r a b))
    [ inl e ↦ rw (eq-eqb _ _ e) (omega arith) | inr e ↦ rw (ne_eqb _ _ e) (omega arith) ]

pub less-bit : (c r a b : ℕ) → less_between c r a b < 2
less-bit c r a b = grind (arith, nat_tests)

-- of one bit
part-one : (n k : ℕ) → part n k (k + 1) ≡ bit_at n k
part-one n k = let one : k + 1 - k ≡ 1 = omega arith in rw one refl

pub same-one : (c r k : ℕ) → same_between c r k (k + 1) ≡ (if bit_at c k == bit_at r k then 1 else 0)
same-one c r k = rw (part-one c k, part-one r k) refl

pub less-one : (c r k : ℕ) → less_between c r k (k + 1) ≡ (if nat_lt (bit_at c k) (bit_at r k) then 1 else 0)
less-one c r k = rw (part-one c k, part-one r k) refl

-- of all 61 bits
pub part-all : (n : ℕ) → n < 2 ^ 61 → part n 0 61 ≡ n
part-all n h = omega arith
