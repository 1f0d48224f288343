-- Where a search ends, and which places it tests.
use Rattle.std.proofs.Common.{◌≡◌, ℕ, zero, suc, ◌+◌, ◌*◌, ◌/◌, ◌^◌, ◌<◌, ◌≤◌, inl, inr, Bool, true, false, List, []}
use Rattle.std.proofs.Common.{◌∷◌, refl, ap, sym, ◌∙◌, arith, pow-suc}
use Rattle.std.specs.Prelude.{nat_lt, nat_le, if◌then◌else◌}
use Rattle.std.proofs.lemmas.Bool.{cases_lt, cases_Bool}
use Rattle.std.proofs.lemmas.Bool.Decides.{nat_tests}
use Rattle.beet_plan.specs.Search.{tested, place_between}

module _ (test : ℕ → Bool) where
  pub tested-none : (m lo hi : ℕ) → hi ≤ lo → tested test m lo hi ≡ []
  unfolding tested
  tested-none zero lo hi h = refl
  tested-none (suc m) lo hi h = let t : nat_lt lo hi ≡ false = grind (arith, nat_tests) in rw t refl

  pub tested-open : (m lo hi : ℕ) → nat_lt lo hi ≡ true → tested test (suc m) lo hi
      ≡ (lo + hi) / 2 ∷ (if test ((lo + hi) / 2) then tested test m lo ((lo + hi) / 2) else tested test m ((lo + hi) / 2 + 1) hi)
  unfolding tested
  tested-open m lo hi t = rw t refl

  pub place-none : (m lo hi : ℕ) → hi ≤ lo → place_between test m lo hi ≡ lo
  unfolding place_between
  place-none zero lo hi h = refl
  place-none (suc m) lo hi h = let t : nat_lt lo hi ≡ false = grind (arith, nat_tests) in rw t refl

  pub place-open : (m lo hi : ℕ) → nat_lt lo hi ≡ true → place_between test (suc m) lo hi
      ≡ (if test ((lo + hi) / 2) then place_between test m lo ((lo + hi) / 2) else place_between test m ((lo + hi) / 2 + 1) hi)
  unfolding place_between
  place-open m lo hi t = rw t refl

  -- it ends between the two places
  pub place-within : (m lo hi : ℕ) → lo ≤ hi → (lo ≤ place_between test m lo hi) × (place_between test m lo hi ≤ hi)
  unfolding place_between
  place-within zero lo hi h = (omega arith, h)
  place-within (suc m) lo hi h = elim (cases_lt lo hi) [
    | inr past ↦ let t : nat_lt lo hi ≡ false = grind (arith, nat_tests) in rw t (omega arith, h)
    | inl below ↦
        let t : nat_lt lo hi ≡ true = grind (arith, nat_tests) in
        let mid = (lo + hi) / 2 in
        elim (cases_Bool (test mid)) [
          | inl met ↦ let r = place-within m lo mid (omega arith) in rw (t, met) (r.0, omega (arith, r.1))
          | inr unmet ↦ let r = place-within m (mid + 1) hi (omega arith) in rw (t, unmet) (omega (arith, r.0), r.1)
        ]
  ]

  -- the places that it tests are the path to the place where it ends
  pub tested-path : (m lo hi z : ℕ) → place_between test m lo hi ≡ z → tested test m lo hi ≡ tested (nat_le z) m lo hi
  unfolding tested
  tested-path zero lo hi z e = refl
  tested-path (suc m) lo hi z e = elim (cases_lt lo hi) [
    | inr past ↦ let t : nat_lt lo hi ≡ false = grind (arith, nat_tests) in rw t refl
    | inl below ↦
        let t : nat_lt lo hi ≡ true = grind (arith, nat_tests) in
        let mid = (lo + hi) / 2 in
        let opened = sym (place-open m lo hi t) ∙ e in
        elim (cases_Bool (test mid)) [
          | inl met ↦
              let here : place_between test m lo mid ≡ z = rw met at opened in
              let le : nat_le z mid ≡ true = grind (arith, nat_tests, place-within m lo mid (omega arith), here) in
              rw (t, met, le) (ap (λ (l : List ℕ). mid ∷ l) (tested-path m lo mid z here))
          | inr unmet ↦
              let here : place_between test m (mid + 1) hi ≡ z = rw unmet at opened in
              let le : nat_le z mid ≡ false = grind (arith, nat_tests, place-within m (mid + 1) hi (omega arith), here) in
              rw (t, unmet, le) (ap (λ (l : List ℕ). mid ∷ l) (tested-path m (mid + 1) hi z here))
        ]
  ]

  -- where the test turns at z, it ends at z
  pub place-turn : (m lo hi z : ℕ) → lo ≤ z → z ≤ hi → hi < lo + 2 ^ m →
      ((k : ℕ) → k < hi → test k ≡ nat_le z k) → place_between test m lo hi ≡ z
  unfolding place_between
  place-turn zero lo hi z low high few turns = omega arith
  place-turn (suc m) lo hi z low high few turns = elim (cases_lt lo hi) [
    | inr past ↦ let t : nat_lt lo hi ≡ false = grind (arith, nat_tests) in rw t (omega arith)
    | inl below ↦
        let t : nat_lt lo hi ≡ true = grind (arith, nat_tests) in
        let mid = (lo + hi) / 2 in
        let power : 2 ^ suc m ≡ 2 ^ m * 2 = pow-suc 2 m in
        let here = turns mid (omega arith) in
        elim (cases_lt mid z) [
          | inl above ↦
              let le : nat_le z mid ≡ false = grind (arith, nat_tests) in
              rw (t, here, le) (place-turn m (mid + 1) hi z (omega arith) high (omega arith) turns)
          | inr under ↦
              let le : nat_le z mid ≡ true = grind (arith, nat_tests) in
              rw (t, here, le) (place-turn m lo mid z low (omega arith) (omega arith) (λ k h. turns k (omega arith)))
        ]
  ]
