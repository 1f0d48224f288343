-- Lists that are the same at each place.
use Rattle.std.proofs.Common.{◌≡◌, ◌<◌, ◌≤◌, ℕ, zero, suc, List, [], ◌∷◌, ◌++◌, length, take, slice_get, slice_index}
use Rattle.std.proofs.Common.{get_or, Some, None, sym, refl, ◌∙◌, ⊎_elim, inl, inr, arith}
use Rattle.std.specs.Prelude.{All}
use Rattle.std.proofs.lemmas.Bool.{cases_lt}
use Rattle.std.proofs.lemmas.List.{get_or_past}
use Rattle.std.proofs.lemmas.List.Elements.{All-get_or}
use Rattle.beet_field.specs.Field.{IsElement}
use Rattle.beet_gates.proofs.EachFacts.{get-past}

get_ext : (xs ys : List ℕ) → ((k : ℕ) → slice_get xs k ≡ slice_get ys k) → xs ≡ ys
get_ext [] [] f = refl
get_ext [] (y ∷ ys) f = let e : None ≡ Some y = f 0 in cc
get_ext (x ∷ xs) [] f = let e : Some x ≡ None = f 0 in cc
get_ext (x ∷ xs) (y ∷ ys) f =
    let e : Some x ≡ Some y = f 0 in
    let here : x ≡ y = cc in
    let others : xs ≡ ys = get_ext xs ys (λ k. f (suc k)) in λ i. here i ∷ others i

pub same_all : (xs ys : List ℕ) (n : ℕ) → length xs ≤ n → length ys ≤ n → ((k : ℕ) → k < n → slice_get xs k ≡ slice_get ys k) → xs ≡ ys
same_all xs ys n a b f = get_ext xs ys (λ k. ⊎_elim
    (λ (lt : k < n). f k lt)
    (λ (ge : n ≤ k). get-past xs k (omega arith) ∙ sym (get-past ys k (omega arith)))
    (cases_lt k n))

pub get_take : (xs : List ℕ) (n k : ℕ) → k < n → k < length xs → slice_get (take n xs) k ≡ Some (get_or xs k 0)
get_take [] n k lt h = absurd (omega arith)
get_take (x ∷ xs) zero k lt h = absurd (omega arith)
get_take (x ∷ xs) (suc n) zero lt h = refl
get_take (x ∷ xs) (suc n) (suc k) lt h = get_take xs n k (omega arith) (omega arith)

-- one number more
pub elements_more : (xs : List ℕ) (x : ℕ) → ((k : ℕ) → IsElement (slice_index xs k)) → IsElement x → (k : ℕ) →
    IsElement (slice_index (xs ++ x ∷ []) k)
elements_more [] x few h zero = h
elements_more [] x few h (suc k) = omega arith
elements_more (y ∷ xs) x few h zero = few 0
elements_more (y ∷ xs) x few h (suc k) = elements_more xs x (λ n. few (suc n)) h k

-- the numbers of a list of them, and what is read past its end
pub element-at : (xs : List ℕ) → All IsElement xs → (n : ℕ) → IsElement (slice_index xs n)
element-at xs all n = elim (cases_lt n (length xs)) [
  | inl h ↦ All-get_or IsElement xs n 0 h all
  | inr past ↦ rw (get_or_past xs n 0 past) (omega arith)
]
