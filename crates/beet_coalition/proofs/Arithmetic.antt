-- What two servers of five see.
use Rattle.std.proofs.Common.{◌≡◌, ◌≢◌, ◌==◌, eq-eqb, ne_eqb, ◌<◌, ◌≤◌, ◌+◌, ◌-◌, ◌*◌, ◌%◌, ◌⊎◌, inl, inr, ℕ, true, refl, sym, subst}
use Rattle.std.proofs.Common.{arith}
use Rattle.std.proofs.lemmas.Bool.{cases_eq}
use Rattle.std.proofs.lemmas.Bool.Decides.{nat_tests}
use Rattle.beet_field.specs.Field.{p, IsElement, add_of, mul_of, neg_of, sub_of}
use Rattle.beet_field.proofs.Modular.{mul_same}
use Rattle.beet_linear_sharing.specs.Sharings.{IsAmong}
use Rattle.beet_linear_sharing.specs.Schemes.{five_servers}
use Rattle.beet_coalition.specs.Watchers.{inverse_of, two_watch}
use Rattle.beet_coalition.proofs.Laws.{CoalitionLaws}

-- What two servers that watch see of a value: numbers that move by factors whose sum at a server is 1 show it what they did.
shows-by : (s F G : ℕ) → (F * s + G * (s * s)) % p ≡ 1 → (x y f g : ℕ) → IsElement y →
    (y + add_of f (mul_of (sub_of x y) F) * s + add_of g (mul_of (sub_of x y) G) * (s * s)) % p ≡ (x + f * s + g * (s * s)) % p
shows-by s F G sum x y f g small =
    let d : ℕ = sub_of x y in
    let e1 = mul_same (add_of f (mul_of d F)) s (f + d * F) s (omega arith) refl in
    let e2 = mul_same (add_of g (mul_of d G)) (s * s) (g + d * G) (s * s) (omega arith) refl in
    let e3 = mul_same d (F * s + G * (s * s)) d 1 refl (omega (arith, sum)) in
    omega (arith, e1, e2, e3, small)

-- and with the value, the points at two servers tell the one at a third: it is a sum of multiples of them
tells-by : (a b i ca cb : ℕ) → (ca * a + cb * b) % p ≡ i % p → (ca * (a * a) + cb * (b * b)) % p ≡ (i * i) % p → (v f g f' g' : ℕ) →
    (v + f * a + g * (a * a)) % p ≡ (v + f' * a + g' * (a * a)) % p → (v + f * b + g * (b * b)) % p ≡ (v + f' * b + g' * (b * b)) % p →
    (v + f * i + g * (i * i)) % p ≡ (v + f' * i + g' * (i * i)) % p
tells-by a b i ca cb sum squares v f g f' g' e e' =
    let at_a = mul_same ca (v + f * a + g * (a * a)) ca (v + f' * a + g' * (a * a)) refl e in
    let at_b = mul_same cb (v + f * b + g * (b * b)) cb (v + f' * b + g' * (b * b)) refl e' in
    let e1 = mul_same f (ca * a + cb * b) f i refl sum in
    let e2 = mul_same f' (ca * a + cb * b) f' i refl sum in
    let e3 = mul_same g (ca * (a * a) + cb * (b * b)) g (i * i) refl squares in
    let e4 = mul_same g' (ca * (a * a) + cb * (b * b)) g' (i * i) refl squares in
    omega (arith, at_a, at_b, e1, e2, e3, e4)

-- what each of the five numbers has, all of them have
at-five : (P : ℕ → Type 0) → P 1 → P 2 → P 3 → P 4 → P 5 → (i : ℕ) → IsAmong five_servers.servers i → P i
at-five P one two three four five i (inl e) = subst P (sym e) one
at-five P one two three four five i (inr (inl e)) = subst P (sym e) two
at-five P one two three four five i (inr (inr (inl e))) = subst P (sym e) three
at-five P one two three four five i (inr (inr (inr (inl e)))) = subst P (sym e) four
at-five P one two three four five i (inr (inr (inr (inr (inl e))))) = subst P (sym e) five
at-five P one two three four five i (inr (inr (inr (inr (inr e))))) = absurd e

-- two servers of five
module _ (a b : ℕ) where
  -- the multiples of the points at a and b that give the one at i
  abbrev of_first : ℕ → ℕ
  of_first i = mul_of (mul_of i (sub_of i b)) (mul_of (inverse_of a) (neg_of (inverse_of (b - a))))

  abbrev of_second : ℕ → ℕ
  of_second i = mul_of (mul_of i (sub_of i a)) (mul_of (inverse_of b) (inverse_of (b - a)))

  abbrev Sums : ℕ → Type 0
  Sums s = ((two_watch a b).factor 0 * s + (two_watch a b).factor 1 * (s * s)) % p ≡ 1

  watches-first : (two_watch a b).watches a ≡ true
  watches-first = rw (eq-eqb a a refl) refl

  watches-second : (two_watch a b).watches b ≡ true
  watches-second = elim (cases_eq b a) [
    | inl e ↦ rw (eq-eqb b a e) refl
    | inr other ↦ rw (ne_eqb b a other, eq-eqb b b refl) refl
  ]

  watched-is : (s : ℕ) → (two_watch a b).watches s ≡ true → s ≢ a → s ≡ b
  watched-is s mine other = let e : (s == b) ≡ true = rw (ne_eqb s a other) at mine in grind (arith, nat_tests)

  abbrev Gives : ℕ → Type 0
  Gives i =
      ((of_first i * a + of_second i * b) % p ≡ i % p)
      × ((of_first i * (a * a) + of_second i * (b * b)) % p ≡ (i * i) % p)

  two-laws : IsAmong five_servers.servers a → IsAmong five_servers.servers b → Sums a → Sums b →
      ((i : ℕ) → IsAmong five_servers.servers i → Gives i) →
      CoalitionLaws five_servers (two_watch a b)
  two-laws at at' sum sum' gives = record {
    moved_same = λ s x y f is mine small. elim (cases_eq s a) [
      | inl e ↦ rw e (shows-by a ((two_watch a b).factor 0) ((two_watch a b).factor 1) sum x y (f 0) (f 1) small)
      | inr other ↦ let e : s ≡ b = watched-is s mine other in
          rw e (shows-by b ((two_watch a b).factor 0) ((two_watch a b).factor 1) sum' x y (f 0) (f 1) small)
    ];
    points_same = λ v f g same i is.
        tells-by a b i (of_first i) (of_second i) (gives i is).0 (gives i is).1 v (f 0) (f 1) (g 0) (g 1)
        (same a at watches-first) (same b at' watches-second);
  }

  -- each condition is a sum of numbers
  by-sums : IsAmong five_servers.servers a → IsAmong five_servers.servers b → Sums a → Sums b → Gives 1 → Gives 2 → Gives 3 → Gives 4 →
      Gives 5 →
      CoalitionLaws five_servers (two_watch a b)
  by-sums at at' sum sum' one two three four five = two-laws at at' sum sum' (at-five Gives one two three four five)

abbrev is1 : IsAmong five_servers.servers 1
is1 = inl refl

abbrev is2 : IsAmong five_servers.servers 2
is2 = inr (inl refl)

abbrev is3 : IsAmong five_servers.servers 3
is3 = inr (inr (inl refl))

abbrev is4 : IsAmong five_servers.servers 4
is4 = inr (inr (inr (inl refl)))

abbrev is5 : IsAmong five_servers.servers 5
is5 = inr (inr (inr (inr (inl refl))))

-- one of the ten pairs
abbrev IsPair : ℕ → ℕ → Type 0
IsPair a b =
    ((a ≡ 1) × (b ≡ 2))
    ⊎ ((a ≡ 1) × (b ≡ 3))
    ⊎ ((a ≡ 1) × (b ≡ 4))
    ⊎ ((a ≡ 1) × (b ≡ 5))
    ⊎ ((a ≡ 2) × (b ≡ 3))
    ⊎ ((a ≡ 2) × (b ≡ 4))
    ⊎ ((a ≡ 2) × (b ≡ 5))
    ⊎ ((a ≡ 3) × (b ≡ 4))
    ⊎ ((a ≡ 3) × (b ≡ 5))
    ⊎ ((a ≡ 4) × (b ≡ 5))

pair-of : (a b : ℕ) → 1 ≤ a → a < b → b ≤ 5 → IsPair a b
pair-of a b some less few = grind arith

pair-laws : (a b : ℕ) → IsPair a b → CoalitionLaws five_servers (two_watch a b)
pair-laws a b (inl e) = rw (e.0, e.1) (by-sums 1 2 is1 is2 refl refl (refl, refl) (refl, refl) (refl, refl) (refl, refl) (refl, refl))
pair-laws a b (inr (inl e)) = rw (e.0, e.1) (by-sums 1 3 is1 is3 refl refl (refl, refl) (refl, refl) (refl, refl) (refl, refl) (refl, refl))
pair-laws a b (inr (inr (inl e))) = rw (e.0, e.1)
    (by-sums 1 4 is1 is4 refl refl (refl, refl) (refl, refl) (refl, refl) (refl, refl) (refl, refl))
pair-laws a b (inr (inr (inr (inl e)))) =
    rw (e.0, e.1) (by-sums 1 5 is1 is5 refl refl (refl, refl) (refl, refl) (refl, refl) (refl, refl) (refl, refl))
pair-laws a b (inr (inr (inr (inr (inl e))))) =
    rw (e.0, e.1) (by-sums 2 3 is2 is3 refl refl (refl, refl) (refl, refl) (refl, refl) (refl, refl) (refl, refl))
pair-laws a b (inr (inr (inr (inr (inr (inl e)))))) =
    rw (e.0, e.1) (by-sums 2 4 is2 is4 refl refl (refl, refl) (refl, refl) (refl, refl) (refl, refl) (refl, refl))
pair-laws a b (inr (inr (inr (inr (inr (inr (inl e))))))) =
    rw (e.0, e.1) (by-sums 2 5 is2 is5 refl refl (refl, refl) (refl, refl) (refl, refl) (refl, refl) (refl, refl))
pair-laws a b (inr (inr (inr (inr (inr (inr (inr (inl e)))))))) =
    rw (e.0, e.1) (by-sums 3 4 is3 is4 refl refl (refl, refl) (refl, refl) (refl, refl) (refl, refl) (refl, refl))
pair-laws a b (inr (inr (inr (inr (inr (inr (inr (inr (inl e))))))))) =
    rw (e.0, e.1) (by-sums 3 5 is3 is5 refl refl (refl, refl) (refl, refl) (refl, refl) (refl, refl) (refl, refl))
pair-laws a b (inr (inr (inr (inr (inr (inr (inr (inr (inr e))))))))) =
    rw (e.0, e.1) (by-sums 4 5 is4 is5 refl refl (refl, refl) (refl, refl) (refl, refl) (refl, refl) (refl, refl))

pub two-of-five : (a b : ℕ) → 1 ≤ a → a < b → b ≤ 5 → CoalitionLaws five_servers (two_watch a b)
two-of-five a b some less few = pair-laws a b (pair-of a b some less few)
