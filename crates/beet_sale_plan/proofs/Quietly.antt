-- Quiet batches before a plan, and a list with another last batch.
use Rattle.std.proofs.Common.{◌≡◌, ℕ, zero, suc, ◌+◌, ◌-◌, ◌<◌, ◌≤◌, List, [], ◌∷◌, length, refl, ap, sym, ◌∙◌, arith}
use Rattle.std.proofs.Math.Nat.{sub-zero}
use Rattle.beet_gates.specs.declared.Batch.{Batch}
use Rattle.beet_gates.specs.Plans.{Plan, plan_batch, plan_length, plan_after, plan_finish, batch_at}
use Rattle.beet_sale_plan.specs.Selections.{quietly, with_last}

module _ {F : Type 0} (rest : Plan F) where
  pub quietly-length : (bs : List Batch) → plan_length (quietly bs rest) ≡ length bs + plan_length rest
  quietly-length [] = omega arith
  quietly-length (b ∷ bs) = omega (arith, quietly-length bs)

  pub quietly-after : (bs : List Batch) (x : ℕ) → plan_after (quietly bs rest) x ≡ plan_after rest x
  quietly-after [] x = refl
  quietly-after (b ∷ bs) x = quietly-after bs x

  pub quietly-finish : (bs : List Batch) (xs : List ℕ) → plan_finish (quietly bs rest) xs ≡ plan_finish rest xs
  unfolding plan_finish
  quietly-finish [] xs = refl
  quietly-finish (b ∷ bs) xs = quietly-finish bs xs

  pub quietly-here : (bs : List Batch) (step : ℕ) → step < length bs → plan_batch (quietly bs rest) step [] ≡ batch_at bs step
  unfolding plan_batch
  quietly-here [] step h = absurd (omega arith)
  quietly-here (b ∷ bs) zero h = refl
  quietly-here (b ∷ bs) (suc step) h = quietly-here bs step (omega arith)

  pub quietly-past : (bs : List Batch) (step : ℕ) → length bs ≤ step →
      plan_batch (quietly bs rest) step [] ≡ plan_batch rest (step - length bs) []
  unfolding plan_batch
  quietly-past [] step h = ap (λ k. plan_batch rest k []) (sym (sub-zero step))
  quietly-past (b ∷ bs) zero h = absurd (omega arith)
  quietly-past (b ∷ bs) (suc step) h =
      let e : suc step - suc (length bs) ≡ step - length bs = omega arith in
      quietly-past bs step (omega arith) ∙ ap (λ k. plan_batch rest k []) (sym e)

module _ (f : Batch → Batch) where
  pub with_last-before : (bs : List Batch) (k : ℕ) → k + 1 < length bs → batch_at (with_last f bs) k ≡ batch_at bs k
  with_last-before [] k h = absurd (omega arith)
  with_last-before (b ∷ []) k h = absurd (omega arith)
  with_last-before (b ∷ c ∷ cs) zero h = refl
  with_last-before (b ∷ c ∷ cs) (suc k) h = with_last-before (c ∷ cs) k (omega arith)

  pub with_last-end : (bs : List Batch) (k : ℕ) → k + 1 ≡ length bs → batch_at (with_last f bs) k ≡ f (batch_at bs k)
  with_last-end [] k h = absurd (omega arith)
  with_last-end (b ∷ []) zero h = refl
  with_last-end (b ∷ []) (suc k) h = absurd (omega arith)
  with_last-end (b ∷ c ∷ cs) zero h = absurd (omega arith)
  with_last-end (b ∷ c ∷ cs) (suc k) h = with_last-end (c ∷ cs) k (omega arith)
