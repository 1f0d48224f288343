-- The items of a list of which one is replaced, and of which one is at a seam.
use Rattle.std.proofs.Common.{◌≡◌, ◌<◌, ◌++◌, ◌∷◌, [], ℕ, List, length, Some, slice_get, slice_set, inl, inr, arith, ap, refl, sym, ◌∙◌}
use Rattle.std.proofs.lemmas.Bool.{cases_lt}
use Rattle.std.proofs.lemmas.List.{get_or-set_same, get_or-set_other, length-set}
use Rattle.std.proofs.lemmas.Option.{slice_get-get_or, slice_get_past}

pub get-set : {A : Type 0} → (xs : List A) (k : ℕ) (y : A) → k < length xs → slice_get (slice_set xs k y) k ≡ Some y
get-set xs k y lt =
    slice_get-get_or (slice_set xs k y) k y (omega (arith, lt, length-set xs k y)) ∙ ap (λ z. Some z) (get_or-set_same xs k y y lt)

pub get-other : {A : Type 0} → (xs : List A) (k i : ℕ) (y : A) → (i ≡ k → ⊥) → slice_get (slice_set xs k y) i ≡ slice_get xs i
get-other xs k i y other = elim (cases_lt i (length xs)) [
  | inl lt ↦
      slice_get-get_or (slice_set xs k y) i y (omega (arith, lt, length-set xs k y)) ∙ ap (λ z. Some z) (get_or-set_other xs k i y y other)
      ∙ sym (slice_get-get_or xs i y lt)
  | inr le ↦ slice_get_past (slice_set xs k y) i (omega (arith, le, length-set xs k y)) ∙ sym (slice_get_past xs i le)
]

pub get-seam : {A : Type 0} → (xs : List A) (y : A) (ys : List A) → slice_get (xs ++ y ∷ ys) (length xs) ≡ Some y
get-seam [] y ys = refl
get-seam (x ∷ xs) y ys = get-seam xs y ys
