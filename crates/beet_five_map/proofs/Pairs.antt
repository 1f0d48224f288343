-- The loop that moves the two numbers that hide each quantity.
use Rattle.std.proofs.Common.{◌≡◌, ◌≢◌, ◌+◌, ◌*◌, ℕ, inl, inr, List, length, slice_index, refl, ◌∙◌, arith}
use Rattle.std.proofs.lemmas.Bool.{cases_lt}
use Rattle.beet_field.specs.Field.{add_of, mul_of, sub_of}
use Rattle.beet_coalition.specs.Coalitions.{Coalition}
use Rattle.beet_five_map.specs.PairsMoved.{PairsMoved}

module _ (c : Coalition) (value other : ℕ → ℕ) (old : List ℕ) where
  pub pairs-none : PairsMoved c 0 value other old old
  pairs-none = record {
    same_length = refl;
    first = λ k lt. absurd (omega arith);
    second = λ k lt. absurd (omega arith);
    rest = λ i le. refl;
  }

  pub pairs-more : (numbers after : List ℕ) (n less rho sigma : ℕ) → PairsMoved c n value other old numbers →
      less ≡ sub_of (value n) (other n) → rho ≡ c.factor 0 → sigma ≡ c.factor 1 →
      length after ≡ length numbers →
      slice_index after (2 * n) ≡ add_of (slice_index numbers (2 * n)) (mul_of less rho) →
      slice_index after (2 * n + 1) ≡ add_of (slice_index numbers (2 * n + 1)) (mul_of less sigma) →
      ((i : ℕ) → i ≢ 2 * n → i ≢ 2 * n + 1 → slice_index after i ≡ slice_index numbers i) → PairsMoved c (n + 1) value other old after
  pairs-more numbers after n less rho sigma to is is_rho is_sigma long here there stays = record {
    same_length = long ∙ to.same_length;
    first = λ k lt. elim (cases_lt k n) [
      | inl low ↦ stays (2 * k) (λ e. absurd (omega (arith, e))) (λ e. absurd (omega (arith, e))) ∙ to.first k low
      | inr high ↦
          let e : k ≡ n = omega arith in
          rw e (here ∙ (λ j. add_of (to.rest (2 * n) (omega arith) j) (mul_of (is j) (is_rho j))))
    ];
    second = λ k lt. elim (cases_lt k n) [
      | inl low ↦ stays (2 * k + 1) (λ e. absurd (omega (arith, e))) (λ e. absurd (omega (arith, e))) ∙ to.second k low
      | inr high ↦
          let e : k ≡ n = omega arith in
          rw e (there ∙ (λ j. add_of (to.rest (2 * n + 1) (omega arith) j) (mul_of (is j) (is_sigma j))))
    ];
    rest = λ i le. stays i (λ e. absurd (omega (arith, e, le))) (λ e. absurd (omega (arith, e, le))) ∙ to.rest i (omega arith);
  }
