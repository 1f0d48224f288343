-- Moved lists of the five servers.
use Rattle.std.proofs.Common.{◌≡◌, ◌≢◌, ◌<◌, ◌≤◌, ◌+◌, ◌*◌, ℕ, List, [], ◌∷◌, length, slice_index, inl, inr, true, false, refl, sym, ap}
use Rattle.std.proofs.Common.{subst, ◌∙◌, ⊎_elim, arith}
use Rattle.std.proofs.lemmas.Bool.{cases_lt}
use Rattle.beet_field.specs.Field.{add_of, mul_of, sub_of}
use Rattle.beet_gates.specs.Draws.{draws_in}
use Rattle.beet_gates.specs.declared.Act.{Act}
use Rattle.beet_coalition.specs.Coalitions.{Coalition, moved_of}
use Rattle.beet_coalition_map.specs.Steps.{MovesAt, MovesBatch, MovesList, Stage, secret_in}

pub moves-none : (c : Coalition) (first second : ℕ → ℕ) (hidden : ℕ) (list : List ℕ) → MovesList c 0 first second hidden list list
moves-none c first second hidden list = record {
  rho = λ k lt. absurd (omega (arith, lt));
  sigma = λ k lt. absurd (omega (arith, lt));
  below = λ n lt. refl;
  beyond = λ n le. refl;
  same_length = refl;
}

-- one secret more, whose two numbers are moved
pub moves-more : (c : Coalition) (first second : ℕ → ℕ) (hidden k : ℕ) (start old new : List ℕ) (rho sigma less place : ℕ) →
    MovesList c k first second hidden start old → place ≡ 2 * (hidden + k) → less ≡ sub_of (first k) (second k) → rho ≡ c.factor 0 →
    sigma ≡ c.factor 1 → slice_index new place ≡ add_of (slice_index old place) (mul_of less rho) →
    slice_index new (place + 1) ≡ add_of (slice_index old (place + 1)) (mul_of less sigma) →
    ((n : ℕ) → n ≢ place → n ≢ place + 1 → slice_index new n ≡ slice_index old n) → length new ≡ length old →
    MovesList c (k + 1) first second hidden start new
moves-more c first second hidden k start old new rho sigma less place so_far at is rho_is sigma_is one two rest len = record {
  rho = λ m lt. ⊎_elim
      (λ (early : m < k). rest (2 * (hidden + m)) (λ e. omega (arith, e, at, early)) (λ e. omega (arith, e, at, early))
      ∙ so_far.rho m early)
      (λ (late : k ≤ m).
      let same : k ≡ m = omega (arith, lt, late) in
      subst (λ n. slice_index new (2 * (hidden + n)) ≡ moved_of c 0 (slice_index start (2 * (hidden + n))) (first n) (second n)) same
      (ap (slice_index new) (sym at) ∙ one
      ∙ (λ i. add_of ((ap (slice_index old) at ∙ so_far.beyond (2 * (hidden + k)) (omega arith)) i) (mul_of (is i) (rho_is i)))))
      (cases_lt m k);
  sigma = λ m lt. ⊎_elim
      (λ (early : m < k).
      rest (2 * (hidden + m) + 1) (λ e. omega (arith, e, at, early)) (λ e. omega (arith, e, at, early)) ∙ so_far.sigma m early)
      (λ (late : k ≤ m).
      let same : k ≡ m = omega (arith, lt, late) in
      let next : place + 1 ≡ 2 * (hidden + k) + 1 = omega (arith, at) in
      subst (λ n. slice_index new (2 * (hidden + n) + 1)
      ≡ moved_of c 1 (slice_index start (2 * (hidden + n) + 1)) (first n) (second n)) same
      (ap (slice_index new) (sym next) ∙ two
      ∙ (λ i. add_of ((ap (slice_index old) next ∙ so_far.beyond (2 * (hidden + k) + 1) (omega arith)) i) (mul_of (is i) (sigma_is i)))))
      (cases_lt m k);
  below = λ n lt. rest n (λ e. omega (arith, e, at, lt)) (λ e. omega (arith, e, at, lt)) ∙ so_far.below n lt;
  beyond = λ n le. rest n (λ e. omega (arith, e, at, le)) (λ e. omega (arith, e, at, le)) ∙ so_far.beyond n (omega (arith, le));
  same_length = len ∙ so_far.same_length;
}

module _ (c : Coalition) (a : Act) (masks : List (List ℕ)) (here : Stage) (masks' : List (List ℕ)) (there : Stage) where
  pub list-moved : (j : ℕ) (list old new : List ℕ) → list ≡ old → (c.watches j ≡ true → new ≡ list) →
      (c.watches j ≡ false → MovesList c (draws_in a) (secret_in masks here a j) (secret_in masks' there a j) here.hidden list new) →
      MovesAt c a masks here masks' there j old new
  list-moved j list old new is own other = record {
    own = λ mine. own mine ∙ is;
    other = λ away.
        subst (λ l. MovesList c (draws_in a) (secret_in masks here a j) (secret_in masks' there a j) here.hidden l new) is
        (other away);
  }

  -- and of all five
  pub moves-batch : (p q r s t p' q' r' s' t' : List ℕ) → MovesAt c a masks here masks' there 1 p p' →
      MovesAt c a masks here masks' there 2 q q' → MovesAt c a masks here masks' there 3 r r' →
      MovesAt c a masks here masks' there 4 s s' → MovesAt c a masks here masks' there 5 t t' →
      MovesBatch c a masks here masks' there (p ∷ q ∷ r ∷ s ∷ t ∷ []) (p' ∷ q' ∷ r' ∷ s' ∷ t' ∷ [])
  moves-batch p q r s t p' q' r' s' t' one two three four five j (inl e) = rw e one
  moves-batch p q r s t p' q' r' s' t' one two three four five j (inr (inl e)) = rw e two
  moves-batch p q r s t p' q' r' s' t' one two three four five j (inr (inr (inl e))) = rw e three
  moves-batch p q r s t p' q' r' s' t' one two three four five j (inr (inr (inr (inl e)))) = rw e four
  moves-batch p q r s t p' q' r' s' t' one two three four five j (inr (inr (inr (inr (inl e))))) = rw e five
  moves-batch p q r s t p' q' r' s' t' one two three four five j (inr (inr (inr (inr (inr e))))) = absurd e
