-- Numbers that are drawn one after another.
use Rattle.std.proofs.Common.{◌≡◌, ℕ, ◌+◌, ◌<◌, ◌≤◌, List, ◌∷◌, length, get_or, take, drop, arith, sym, ◌∙◌, ap, inl, inr}
use Rattle.std.proofs.Math.ListN.{set}
use Rattle.std.proofs.lemmas.Bool.{cases_lt}
use Rattle.std.proofs.lemmas.Grind.{same_number_lists}
use Rattle.std.proofs.lemmas.List.{get_or-set_same, get_or-set_other, get_or-drop, get_or-take, length-take-le, drop-drop}

-- the first so many items of two lists are the same
abbrev pub SameFront : ℕ → List ℕ → List ℕ → Type 0
SameFront n xs ys = (k : ℕ) → k < n → get_or xs k 0 ≡ get_or ys k 0

pub front-more : (n x : ℕ) (xs ys rest : List ℕ) → n < length xs → SameFront n xs ys → drop n ys ≡ x ∷ rest →
    SameFront (n + 1) (set xs n x) ys
front-more n x xs ys rest h same e = λ k lt. elim (cases_lt k n) [
  | inl low ↦ get_or-set_other xs n k x 0 (λ equal. omega (arith, equal)) ∙ same k low
  | inr high ↦
      let here : k ≡ n = omega arith in
      let item : get_or ys n 0 ≡ x = ap (λ m. get_or ys m 0) (omega arith) ∙ sym (get_or-drop n ys 0 0) ∙ ap (λ zs. get_or zs 0 0) e in
      rw here (get_or-set_same xs n x 0 h ∙ sym item)
]

pub rest-more : (n x : ℕ) (ys rest : List ℕ) → drop n ys ≡ x ∷ rest → rest ≡ drop (n + 1) ys
rest-more n x ys rest e = sym (ap (drop 1) e) ∙ drop-drop 1 n ys

pub front-whole : (n : ℕ) (xs ys : List ℕ) → length xs ≡ n → n ≤ length ys → SameFront n xs ys → xs ≡ take n ys
front-whole n xs ys e h same =
    same_number_lists xs (take n ys) (omega (arith, e, length-take-le n ys h))
    (λ k lt.
    let within : k < n = omega arith in
    same k within ∙ sym (get_or-take n ys k 0 within))
