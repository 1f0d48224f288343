-- Lists of which some items are given by a rule.
use Rattle.std.proofs.Common.{◌≡◌, ◌≤◌, ◌<◌, ◌+◌, ◌-◌, ℕ, inl, inr, true, false, List, length, slice_index, sym, refl}
use Rattle.std.proofs.Common.{subst, ◌∙◌, arith}
use Rattle.std.specs.Prelude.{nat_lt, if◌then◌else◌}
use Rattle.std.proofs.lemmas.Bool.{cases_lt}
use Rattle.std.proofs.lemmas.Bool.Decides.{nat_tests}
use Rattle.std.proofs.lemmas.List.{get_or_past}
use Rattle.beet_field.specs.Field.{IsElement}
use Rattle.beet_gates.specs.Each.{each}
use Rattle.beet_gates.proofs.EachFacts.{item-each, length-each}

-- the item at a place: by the rule for so many items from a place on
abbrev pub item_by : (ℕ → ℕ) → ℕ → ℕ → List ℕ → ℕ → ℕ
item_by rule from count old n =
    if nat_lt n from then slice_index old n else (if nat_lt n (from + count) then rule (n - from) else slice_index old n)

abbrev pub spliced : (ℕ → ℕ) → ℕ → ℕ → List ℕ → List ℕ
spliced rule from count old = each (item_by rule from count old) (length old)

module _ (rule : ℕ → ℕ) (from count : ℕ) (old : List ℕ) where
  pub spliced-length : length (spliced rule from count old) ≡ length old
  spliced-length = length-each (item_by rule from count old) (length old)

  pub spliced-moves : from + count ≤ length old → (k : ℕ) → k < count → slice_index (spliced rule from count old) (from + k) ≡ rule k
  spliced-moves fits k lt =
      let low : nat_lt (from + k) from ≡ false = grind (arith, nat_tests) in
      let high : nat_lt (from + k) (from + count) ≡ true = grind (arith, nat_tests) in
      let place : (from + k) - from ≡ k = omega arith in
      item-each (item_by rule from count old) (length old) (from + k) (omega arith) ∙ rw (low, high, place) refl

  stays : (n : ℕ) → item_by rule from count old n ≡ slice_index old n → slice_index (spliced rule from count old) n ≡ slice_index old n
  stays n same = elim (cases_lt n (length old)) [
    | inl lt ↦ item-each (item_by rule from count old) (length old) n lt ∙ same
    | inr past ↦ get_or_past (spliced rule from count old) n 0 (omega (arith, spliced-length)) ∙ sym (get_or_past old n 0 past)
  ]

  pub spliced-below : (n : ℕ) → n < from → slice_index (spliced rule from count old) n ≡ slice_index old n
  spliced-below n lt =
      let low : nat_lt n from ≡ true = grind (arith, nat_tests) in
      stays n (rw low refl)

  pub spliced-beyond : (n : ℕ) → from + count ≤ n → slice_index (spliced rule from count old) n ≡ slice_index old n
  spliced-beyond n le =
      let low : nat_lt n from ≡ false = grind (arith, nat_tests) in
      let high : nat_lt n (from + count) ≡ false = grind (arith, nat_tests) in
      stays n (rw (low, high) refl)

  pub spliced-elements : from + count ≤ length old → ((k : ℕ) → IsElement (rule k)) → ((n : ℕ) → IsElement (slice_index old n)) →
      (n : ℕ) → IsElement (slice_index (spliced rule from count old) n)
  spliced-elements fits new few n = elim (cases_lt n from) [
    | inl low ↦ subst (λ x. IsElement x) (sym (spliced-below n low)) (few n)
    | inr high ↦ elim (cases_lt n (from + count)) [
      | inl lt ↦
          let place : from + (n - from) ≡ n = omega arith in
          let is : slice_index (spliced rule from count old) (from + (n - from)) ≡ rule (n - from) =
          spliced-moves fits (n - from) (omega arith) in
          subst (λ m. IsElement (slice_index (spliced rule from count old) m)) place (subst (λ x. IsElement x) (sym is) (new (n - from)))
      | inr le ↦ subst (λ x. IsElement x) (sym (spliced-beyond n le)) (few n)
    ]
  ]
