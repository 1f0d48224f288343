-- The batch at each step of the block of a mask.
use Rattle.std.proofs.Common.{◌≡◌, ℕ, zero, suc, sym, List, ◌+◌, ◌-◌, ◌*◌, ◌/◌, ◌<◌, ◌≤◌, [], ◌∷◌, length, slice_get}
use Rattle.std.proofs.Common.{true, Some, None, refl, ap, ◌∙◌, arith, length-append}
use Rattle.std.specs.Prelude.{nat_lt, unwrap_or}
use Rattle.std.proofs.lemmas.Bool.Decides.{nat_tests}
use Rattle.beet_gates.specs.Batches.{end_batch, mul_batch, reveal_batch}
use Rattle.beet_gates.specs.Each.{each}
use Rattle.beet_gates.specs.Levels.{next_item}
use Rattle.beet_gates.proofs.LevelRuns.{next_item-result, pairs-same}
use Rattle.beet_gates.specs.declared.Gates.{Gates}
use Rattle.beet_gates.specs.declared.Gates.TheVariants.{Chain, Tree}
use Rattle.beet_gates.proofs.EachFacts.{length-each, get-front, get-back, get-past}
use Rattle.beet_gates.specs.Plans.{batch_at}
use Rattle.beet_gates.proofs.PlanFacts.{batch-there}
use Rattle.beet_gates.specs.declared.Linear.{Linear}
use Rattle.beet_mask.specs.declared.TheConstants.{CHAIN_ROUNDS}
use Rattle.beet_mask.specs.Mask.{chain_batches, left_after, lets_after, level_wire, mask_batches, mask_rounds_of}
use Rattle.beet_mask.specs.Mask.{product_batches, word_lets, xor_batches}

length-chain_batches : (lets : List Linear) (bits : ℕ) → length (chain_batches lets bits) ≡ CHAIN_ROUNDS
length-chain_batches lets bits =
    let rule = λ (j : ℕ). mul_batch [] ((bits + 61 + j, bits + 2 + j) ∷ []) in
    omega (arith, length-append (each rule 59) (reveal_batch [] ((bits + 120) ∷ []) ∷ []), length-each rule 59)

length-xor_batches : (gates : Gates) (n : ℕ) (lets : List Linear) (left right free : ℕ) →
    1 + length (xor_batches gates n lets left right free) ≡ mask_rounds_of gates (suc n)
length-xor_batches Chain zero lets left right free = omega (arith, length-chain_batches lets left)
length-xor_batches Tree zero lets left right free = refl
length-xor_batches Chain (suc n) lets left right free =
    omega (arith, length-xor_batches Chain n (word_lets left right free) (free + 61) (right + 61) (free + 122))
length-xor_batches Tree (suc n) lets left right free =
    omega (arith, length-xor_batches Tree n (word_lets left right free) (free + 61) (right + 61) (free + 122))

pub length-mask_batches : (gates : Gates) (words first : ℕ) → 1 ≤ words →
    length (mask_batches gates words first) ≡ mask_rounds_of gates words
length-mask_batches gates words first some =
    let e : words ≡ suc (words - 1) = omega arith in
    let m = length-xor_batches gates (words - 1) [] first (first + 61) (first + 61 * words)
    ∙ (λ i. mask_rounds_of gates (sym e i)) in omega (arith, m)

-- the products with a word, and what comes after them
left-next : (left free n : ℕ) → left_after (free + 61) (free + 122) n ≡ left_after left free (suc n)
left-next left free zero = omega arith
left-next left free (suc n) = omega arith

lets-next : (lets : List Linear) (left right free n : ℕ) →
    lets_after (word_lets left right free) (free + 61) (right + 61) (free + 122) n ≡ lets_after lets left right free (suc n)
lets-next lets left right free zero =
    let e1 : right + 61 * 0 ≡ right = omega arith in
    let e2 : free + 122 * 0 ≡ free = omega arith in λ i. word_lets left (sym e1 i) (sym e2 i)
lets-next lets left right free (suc n) =
    let e1 : right + 61 + 61 * n ≡ right + 61 * suc n = omega arith in
    let e2 : free + 122 + 122 * n ≡ free + 122 * suc n = omega arith in λ i. word_lets (left-next left free n i) (e1 i) (e2 i)

pub xor-at : (gates : Gates) (n : ℕ) (lets : List Linear) (left right free j : ℕ) → j < n →
    slice_get (xor_batches gates n lets left right free) j
    ≡ Some (mul_batch (lets_after lets left right free j) (each (λ k. (left_after left free j + k, right + 61 * j + k)) 61))
xor-at gates zero lets left right free j h = absurd (omega arith)
xor-at gates (suc n) lets left right free zero h =
    let e : right + 61 * 0 ≡ right = omega arith in
    λ i. Some (mul_batch lets (each (λ (k : ℕ). (left + k, sym e i + k)) 61))
xor-at gates (suc n) lets left right free (suc j) h =
    let e : right + 61 + 61 * j ≡ right + 61 * suc j = omega arith in
    xor-at gates n (word_lets left right free) (free + 61) (right + 61) (free + 122) j (omega arith)
    ∙ (λ i. Some (mul_batch (lets-next lets left right free j i) (each (λ (k : ℕ). (left-next left free j i + k, e i + k)) 61)))

pub xor-then : (gates : Gates) (n : ℕ) (lets : List Linear) (left right free j : ℕ) →
    slice_get (xor_batches gates n lets left right free) (n + j)
    ≡ slice_get (product_batches gates (lets_after lets left right free n) (left_after left free n)) j
xor-then gates zero lets left right free j = let e : 0 + j ≡ j = omega arith in λ i. slice_get (product_batches gates lets left) (e i)
xor-then gates (suc n) lets left right free j =
    let e : suc n + j ≡ suc (n + j) = omega arith in
    (λ i. slice_get (xor_batches gates (suc n) lets left right free) (e i))
    ∙ xor-then gates n (word_lets left right free) (free + 61) (right + 61) (free + 122) j
    ∙ (λ i. slice_get (product_batches gates (lets-next lets left right free n i) (left-next left free n i)) j)

pub chain-next : (lets : List Linear) (bits step : ℕ) → 1 ≤ step → step ≤ 59 →
    slice_get (chain_batches lets bits) step ≡ Some (mul_batch [] ((bits + 60 + step, bits + (step + 1)) ∷ []))
chain-next lets bits step low high =
    let rule = λ (j : ℕ). mul_batch [] ((bits + 61 + j, bits + 2 + j) ∷ []) in
    let k = step - 1 in
    let e : step ≡ suc k = omega arith in
    let a : bits + 60 + step ≡ bits + 61 + k = omega arith in
    let b : bits + (step + 1) ≡ bits + 2 + k = omega arith in
    rw (a, b) (ap (slice_get (chain_batches lets bits)) e ∙ get-front rule 59 (reveal_batch [] ((bits + 120) ∷ []) ∷ []) k (omega arith))

pub chain-last : (lets : List Linear) (bits : ℕ) → slice_get (chain_batches lets bits) 60 ≡ Some (reveal_batch [] ((bits + 120) ∷ []))
chain-last lets bits =
    let rule = λ (j : ℕ). mul_batch [] ((bits + 61 + j, bits + 2 + j) ∷ []) in
    get-back rule 59 (reveal_batch [] ((bits + 120) ∷ []) ∷ []) 0

pub chain-past : (lets : List Linear) (bits step : ℕ) → 61 ≤ step → slice_get (chain_batches lets bits) step ≡ None
chain-past lets bits step h = get-past (chain_batches lets bits) step (omega (arith, h, length-chain_batches lets bits))

-- a level of a tree whose pairs reach no carried item
pub level-plain : (bits start results n free : ℕ) (item : ℕ → ℕ) (pairs : ℕ) → 2 * pairs ≤ results → 2 * pairs ≤ n / 2 → start ≡ free →
    each {A = ℕ × ℕ} (λ i. (level_wire bits start results (2 * i), level_wire bits start results (2 * i + 1))) pairs
    ≡ each {A = ℕ × ℕ} (λ i. (next_item n item (λ k. free + k) (2 * i), next_item n item (λ k. free + k) (2 * i + 1))) pairs
level-plain bits start results n free item pairs few most e =
    let pair : ℕ → ℕ → ℕ × ℕ = λ left right. (left, right) in
    pairs-same pair (level_wire bits start results) (next_item n item (λ k. free + k)) pairs
    (λ k l.
    let t : nat_lt k results ≡ true = grind (arith, nat_tests) in
    rw (t, next_item-result n k item (λ i. free + i) (omega (arith, l, most)), e) refl)

module _ (gates : Gates) (words first step : ℕ) (some : 1 ≤ words) where
  pub mask-past : mask_rounds_of gates words ≤ step → slice_get (mask_batches gates words first) step ≡ None
  mask-past h = get-past (mask_batches gates words first) step (omega (arith, h, length-mask_batches gates words first some))

  pub mask-there : step < mask_rounds_of gates words →
      Some (batch_at (mask_batches gates words first) step) ≡ slice_get (mask_batches gates words first) step
  mask-there h = batch-there (mask_batches gates words first) step (omega (arith, h, length-mask_batches gates words first some))

-- the batches of a block by their steps, past the deal
module _ (gates : Gates) (words first step : ℕ) where
  abbrev free : ℕ
  free = first + 61 * words

  pub mask-products : 1 ≤ step → step < words → batch_at (mask_batches gates words first) step
      ≡ mul_batch (lets_after [] first (first + 61) free (step - 1))
      (each (λ k. (left_after first free (step - 1) + k, first + 61 + 61 * (step - 1) + k)) 61)
  mask-products some few =
      let e : step ≡ suc (step - 1) = omega arith in
      ap (batch_at (mask_batches gates words first)) e
      ∙ (λ i. unwrap_or (xor-at gates (words - 1) [] first (first + 61) free (step - 1) (omega arith) i) end_batch)

  pub mask-bits : 1 ≤ words → words ≤ step → batch_at (mask_batches gates words first) step
      ≡ batch_at (product_batches gates (lets_after [] first (first + 61) free (words - 1))
      (left_after first free (words - 1))) (step - words)
  mask-bits some past =
      let e : step ≡ suc (words - 1 + (step - words)) = omega arith in
      ap (batch_at (mask_batches gates words first)) e
      ∙ (λ i. unwrap_or (xor-then gates (words - 1) [] first (first + 61) free (step - words) i) end_batch)
