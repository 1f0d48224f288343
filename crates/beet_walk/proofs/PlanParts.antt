-- What each part of a plan says before a number is opened.
use Rattle.std.proofs.Common.{◌≡◌, ℕ, zero, suc, List, [], ◌∷◌, Some, None, refl}
use Rattle.beet_gates.specs.declared.Batch.{Batch}
use Rattle.beet_gates.specs.Batches.{end_batch}
use Rattle.beet_gates.specs.Plans.{Plan, Ended, Block, Last, plan_batch, plan_finish, batch_at}

-- a batch past the only one
pub past-one : (b : Batch) (step : ℕ) → (step ≡ 0 → ⊥) → batch_at (b ∷ []) step ≡ end_batch
past-one b zero h = absurd (h refl)
past-one b (suc step) h = refl

module _ {F : Type 0} where
  -- batches
  pub block-batch : (bs : List Batch) (next : ℕ → Plan F) (step : ℕ) → plan_batch (Block bs next) step [] ≡ batch_at bs step
  unfolding plan_batch
  block-batch bs next step = refl

  pub last-batch : (b : Batch) (n : ℕ) (named : List ℕ → F) (step : ℕ) → plan_batch (Last b n named) step [] ≡ batch_at (b ∷ []) step
  unfolding plan_batch
  last-batch b n named step = refl

  pub ended-batch : (f : F) (step : ℕ) → plan_batch (Ended f) step [] ≡ end_batch
  unfolding plan_batch
  ended-batch f step = refl

  -- a last batch that is done, whose numbers are still to be read
  pub read-batch : (n : ℕ) (named : List ℕ → F) (step : ℕ) → plan_batch (Last end_batch n named) step [] ≡ end_batch
  unfolding plan_batch
  read-batch n named zero = refl
  read-batch n named (suc step) = refl

  -- finishes
  pub block-finish : (bs : List Batch) (next : ℕ → Plan F) → plan_finish (Block bs next) [] ≡ None
  unfolding plan_finish
  block-finish bs next = refl

  pub last-finish : (b : Batch) (n : ℕ) (named : List ℕ → F) → plan_finish (Last b (suc n) named) [] ≡ None
  unfolding plan_finish
  last-finish b n named = refl

  pub ended-finish : (f : F) → plan_finish (Ended f) [] ≡ Some f
  unfolding plan_finish
  ended-finish f = refl
