-- The batch at each step of the block of a comparison.
use Rattle.std.proofs.Common.{◌≡◌, ℕ, suc, ◌+◌, ◌-◌, ◌<◌, ◌≤◌, List, [], ◌∷◌, length, slice_get, Some, None, refl, ap}
use Rattle.std.proofs.Common.{◌∙◌, arith, length-append}
use Rattle.beet_gates.specs.declared.Batch.{Batch}
use Rattle.beet_gates.specs.declared.Gates.{Gates}
use Rattle.beet_gates.specs.declared.Gates.TheVariants.{Chain, Tree}
use Rattle.beet_gates.specs.Each.{each}
use Rattle.beet_gates.proofs.EachFacts.{length-each, get-front, get-back, get-past}
use Rattle.beet_gates.specs.Plans.{batch_at}
use Rattle.beet_gates.proofs.PlanFacts.{batch-there}
use Rattle.beet_compare.specs.Compare.{compare_batches, compare_rounds_of, bit_batch, chain_batches, last_batches, last_let}

-- the two batches after the bits of a chain
abbrev pub last_two : ℕ → ℕ → ℕ → List Batch
last_two first mask c = last_batches (last_let first mask c ∷ []) (first + 241) (first + 242) mask c

module _ (first mask c : ℕ) where
  length-chain_batches : length (chain_batches first mask c) ≡ 62
  length-chain_batches = omega (
    arith,
    length-append (each (bit_batch first mask c) 59) (last_two first mask c),
    length-each (bit_batch first mask c) 59,
  )

  pub chain-bit : (step : ℕ) → 1 ≤ step → step ≤ 59 → slice_get (chain_batches first mask c) step ≡ Some (bit_batch first mask c (step - 1))
  chain-bit step low high =
      let e : step ≡ suc (step - 1) = omega arith in
      ap (slice_get (chain_batches first mask c)) e ∙ get-front (bit_batch first mask c) 59 (last_two first mask c) (step - 1) (omega arith)

  pub chain-last : slice_get (chain_batches first mask c) 60 ≡ slice_get (last_two first mask c) 0
  chain-last = get-back (bit_batch first mask c) 59 (last_two first mask c) 0

  pub chain-answer : slice_get (chain_batches first mask c) 61 ≡ slice_get (last_two first mask c) 1
  chain-answer = get-back (bit_batch first mask c) 59 (last_two first mask c) 1

  pub chain-past : (step : ℕ) → 62 ≤ step → slice_get (chain_batches first mask c) step ≡ None
  chain-past step h = get-past (chain_batches first mask c) step (omega (arith, length-chain_batches))

module _ (first mask supply demand c : ℕ) where
  pub length-compare_batches : (gates : Gates) → length (compare_batches gates first mask supply demand c) ≡ compare_rounds_of gates
  length-compare_batches Chain = omega (arith, length-chain_batches first mask c)
  length-compare_batches Tree = refl

  pub compare-past : (gates : Gates) (step : ℕ) → compare_rounds_of gates ≤ step →
      slice_get (compare_batches gates first mask supply demand c) step ≡ None
  compare-past gates step h =
      get-past (compare_batches gates first mask supply demand c) step (omega (arith, h, length-compare_batches gates))

  pub compare-there : (gates : Gates) (step : ℕ) → step < compare_rounds_of gates →
      Some (batch_at (compare_batches gates first mask supply demand c) step)
      ≡ slice_get (compare_batches gates first mask supply demand c) step
  compare-there gates step h = batch-there (compare_batches gates first mask supply demand c) step
      (omega (arith, h, length-compare_batches gates))
