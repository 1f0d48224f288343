-- What is said of each peer of a server.
use Rattle.std.proofs.Common.{◌≡◌, ℕ, Bool, true, List, [], ◌∷◌, map, refl, sym, ap, ◌∙◌, inl, inr}
use Rattle.std.specs.Prelude.{filter}
use Rattle.std.proofs.lemmas.Bool.{cases_Bool, cond-true, cond-false}

-- rules that agree on what is kept of a list
pub map-kept : {A : Type 0} (f g : ℕ → A) (p : ℕ → Bool) → ((j : ℕ) → p j ≡ true → f j ≡ g j) → (js : List ℕ) →
    map f (filter p js) ≡ map g (filter p js)
map-kept f g p same [] = refl
map-kept f g p same (j ∷ js) = elim (cases_Bool (p j)) [
  | inl w ↦
      let kept = cond-true (p j) (j ∷ filter p js) (filter p js) w in
      ap (map f) kept ∙ (λ i. same j w i ∷ map-kept f g p same js i) ∙ sym (ap (map g) kept)
  | inr w ↦
      let kept = cond-false (p j) (j ∷ filter p js) (filter p js) w in
      ap (map f) kept ∙ map-kept f g p same js ∙ sym (ap (map g) kept)
]
