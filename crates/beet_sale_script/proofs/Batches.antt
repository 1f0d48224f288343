-- How many batches come before the next number, and which they are.
use Rattle.std.proofs.Common.{◌≡◌, ℕ, zero, suc, ◌+◌, ◌-◌, ◌<◌, ◌≤◌, List, [], ◌∷◌, ◌++◌, length, Option, Some, None, refl}
use Rattle.std.proofs.Common.{ap, sym, ◌∙◌, arith, ◌≢◌, add-one, length-append}
use Rattle.beet_gates.specs.declared.Linear.{Linear}
use Rattle.beet_gates.specs.declared.Gates.{Gates}
use Rattle.beet_gates.specs.Batches.{end_batch, reveal_batch}
use Rattle.beet_gates.specs.Linears.{one_term}
use Rattle.beet_gates.specs.Plans.{Plan, plan_batch, plan_length, batch_at}
use Rattle.beet_gates.specs.declared.Batch.{Batch}
use Rattle.beet_compare.specs.Compare.{compare_batches}
use Rattle.beet_masking.specs.Accepting.{until_accepted}
use Rattle.beet_masking.specs.Blocks.{Blocks, blocks_of, after_mask}
use Rattle.beet_masking.proofs.BlockLaws.{are-blocks}
use Rattle.beet_masking.proofs.Standing.{until-open}
use Rattle.beet_walk.proofs.PlanParts.{past-one, ended-batch, read-batch}
use Rattle.beet_sale_plan.specs.Selections.{lets_before, with_last, result_wire}
use Rattle.beet_sale_plan.specs.Sale.{best_lets, best_wire, sale_from, rest_let, sum_let}
use Rattle.beet_sale_plan.specs.declared.SaleEnd.{SaleEnd}
use Rattle.beet_sale_plan.specs.declared.SaleEnd.TheVariants.{MasksSpent}
use Rattle.beet_sale_plan.proofs.Ending.{may-select}
use Rattle.beet_sale_plan.proofs.Moves.{with_last-length}
use Rattle.beet_sale_plan.proofs.Quietly.{quietly-length, quietly-here, quietly-past, with_last-before, with_last-end}
use Rattle.beet_sale_script.specs.Walk.{plan_at, stage_plan, tail_batches}
use Rattle.beet_sale_script.specs.declared.walk.Stage.{Stage}
use Rattle.beet_sale_script.specs.declared.walk.Stage.TheVariants.{First, FirstMasked, Second, SecondMasked, Price, Sold, Spent}
use Rattle.beet_sale_script.specs.declared.walk.Tail.{Tail}
use Rattle.beet_sale_script.specs.declared.walk.Tail.TheVariants.{AfterFirst, AfterSecond}
use Rattle.beet_sale_script.specs.declared.walk.Walk.{Walk}
use Rattle.beet_sale_script.proofs.Leads.{sale-open}

-- how many batches come before the next number
module _ (w : Walk) where
  pub stage-length : (s : Stage) → w.stage ≡ s → (n : ℕ) → plan_length (stage_plan s w) ≡ n →
      plan_length (plan_at w) ≡ length (tail_batches w.tail w) + n
  stage-length s e n is = quietly-length (stage_plan w.stage w) (tail_batches w.tail w)
      ∙ ap (λ (t : Stage). length (tail_batches w.tail w) + plan_length (stage_plan t w)) e
      ∙ ap (λ k. length (tail_batches w.tail w) + k) is

  pub tail-some : (t : Tail) → w.tail ≡ Some t → length (tail_batches w.tail w) ≡ (blocks_of w.gates).compare_rounds - 1
  tail-some t e = ap (λ (o : Option Tail). length (tail_batches o w)) e ∙ by t where
    by : (t : Tail) → length (tail_batches (Some t) w) ≡ (blocks_of w.gates).compare_rounds - 1
    by (AfterFirst from mask c) =
        let g = blocks_of w.gates in
        with_last-length _ (g.answer from mask c) ∙ omega (arith, (are-blocks w.gates).comparisons.rounds from mask c)
    by (AfterSecond free mask c) =
        let g = blocks_of w.gates in
        with_last-length _ (g.answer (free + 3) mask c) ∙ omega (arith, (are-blocks w.gates).comparisons.rounds (free + 3) mask c)

  until-length : (spare first : ℕ) (next : ℕ → ℕ → Plan SaleEnd) →
      plan_length (until_accepted (blocks_of w.gates) MasksSpent spare first next) ≡ (blocks_of w.gates).mask_rounds
  until-length spare first next =
      ap plan_length (until-open (blocks_of w.gates) MasksSpent spare first next) ∙ (are-blocks w.gates).masks.rounds first

  closed-length : (n bid spare first : ℕ) (best : Option ℕ) (who next : Linear) → n ≡ 0 →
      plan_length (sale_from (blocks_of w.gates) n bid spare first best who next) ≡ 1
  unfolding sale_from
  closed-length zero bid spare first best who next e = refl
  closed-length (suc n) bid spare first best who next e = absurd (omega arith)

  pub length-open : 0 < w.left → plan_length (stage_plan First w) ≡ (blocks_of w.gates).mask_rounds
  length-open some =
      ap plan_length (sale-open (blocks_of w.gates) w.left w.bid w.spare w.first w.best w.who w.next some)
      ∙ until-length w.spare w.first _

  pub length-closed : w.left ≡ 0 → plan_length (stage_plan First w) ≡ 1
  length-closed none = closed-length w.left w.bid w.spare w.first w.best w.who w.next none

  pub length-second : plan_length (stage_plan Second w) ≡ (blocks_of w.gates).mask_rounds
  length-second = until-length w.spare w.first _

-- the batches of the rest of a selection
last-at : (init : List Batch) (b : Batch) → batch_at (init ++ b ∷ []) (length init) ≡ b
last-at [] b = refl
last-at (a ∷ init) b = last-at init b

module _ (gates : Gates) (from mask c step : ℕ) (b : Batch) (is : b ≡ batch_at (compare_batches gates from mask 0 0 c) (step + 1)) where
  abbrev answers : List Batch
  answers = (blocks_of gates).answer from mask c

  rest-is : b ≡ batch_at answers step
  rest-is = rw add-one at is

  pub rest-before : (f : Batch → Batch) → step + 2 ≢ (blocks_of gates).compare_rounds →
      step + 1 < (blocks_of gates).compare_rounds → b ≡ batch_at (with_last f answers) step
  rest-before f not h =
      rest-is ∙ sym (with_last-before f answers step (omega (arith, (are-blocks gates).comparisons.rounds from mask c, not, h)))

  pub rest-end : (f : Batch → Batch) → step + 2 ≡ (blocks_of gates).compare_rounds → f b ≡ batch_at (with_last f answers) step
  rest-end f e =
      ap f rest-is ∙ sym (with_last-end f answers step (omega (arith, (are-blocks gates).comparisons.rounds from mask c, e)))

  pub rest-lets : step + 2 ≡ (blocks_of gates).compare_rounds → length b.lets.items ≤ 1
  rest-lets e =
      let a = (may-select gates).ends from mask c in
      let last = reveal_batch a.lets (result_wire (blocks_of gates) from ∷ []) in
      let place : step ≡ length a.init =
      omega (
        arith,
        (are-blocks gates).comparisons.rounds from mask c,
        e,
        ap length a.is,
        length-append a.init (last ∷ []),
      ) in
      let here : b ≡ last = rest-is ∙ (λ i. batch_at (a.is i) (place i)) ∙ last-at a.init last in
      let many : length b.lets.items ≡ length a.lets = ap (λ (x : Batch). length x.lets.items) here in
      omega (arith, many, a.few)

-- the masked differences
masked-first : (w : Walk) →
    (let g = blocks_of w.gates in
    let free = after_mask g w.first in
    plan_batch (stage_plan FirstMasked w) 0 []
    ≡ lets_before (best_lets w.best) (g.masked (free + length (best_lets w.best)) w.first (best_wire w.best free) w.bid))
unfolding plan_batch
masked-first w = refl

-- the first, once its lets are put before the difference of two wires
pub first-made : (w : Walk) (free from left : ℕ) (b : Batch) (lets : List Linear) → free ≡ after_mask (blocks_of w.gates) w.first →
    from ≡ free + length (best_lets w.best) → left ≡ best_wire w.best free →
    b ≡ (blocks_of w.gates).masked from w.first left w.bid → best_lets w.best ≡ lets →
    lets_before lets b ≡ plan_batch (stage_plan FirstMasked w) 0 []
first-made w free from left b lets at starts best is made =
    let g = blocks_of w.gates in
    let start = starts ∙ ap (λ n. n + length (best_lets w.best)) at in
    let wire = best ∙ ap (best_wire w.best) at in
    ap (lets_before lets) (is ∙ (λ i. g.masked (start i) w.first (wire i) w.bid))
    ∙ ap (λ (l : List Linear). lets_before l (g.masked (after_mask g w.first + length (best_lets w.best)) w.first
    (best_wire w.best (after_mask g w.first)) w.bid)) (sym made)
    ∙ sym (masked-first w)

pub masked-second : (w : Walk) →
    (let g = blocks_of w.gates in
    let free = after_mask g w.first in
    plan_batch (stage_plan SecondMasked w) 0 []
    ≡ lets_before (w.next ∷ sum_let w.bid w.product ∷ rest_let (best_wire w.best 0) w.bid (free + 1) ∷ [])
    (g.masked (free + 3) w.first free (free + 2)))
unfolding plan_batch
masked-second w = refl

pub masked-few : (gates : Gates) (first mask left right : ℕ) (b : Batch) → b ≡ (blocks_of gates).masked first mask left right →
    length b.lets.items ≤ 64
masked-few gates first mask left right b e = rw e ((may-select gates).few_lets first mask left right)

-- the let of the first bid, where it is to be made, and where it is not
pub made-first : (best : Option ℕ) → best ≡ None → best_lets best ≡ one_term 0 (1, 0) ∷ []
made-first best e = ap best_lets e

pub none-first : (best : Option ℕ) (wire : ℕ) → best ≡ Some wire → best_lets best ≡ []
none-first best wire e = ap best_lets e

-- the batches of a stage, past the rest of a selection
pub stage-batch : (w : Walk) (step : ℕ) → length (tail_batches w.tail w) ≤ step →
    plan_batch (plan_at w) step [] ≡ plan_batch (stage_plan w.stage w) (step - length (tail_batches w.tail w)) []
stage-batch w step h = quietly-past (stage_plan w.stage w) (tail_batches w.tail w) step h

pub rest-batch : (w : Walk) (step : ℕ) → step < length (tail_batches w.tail w) →
    plan_batch (plan_at w) step [] ≡ batch_at (tail_batches w.tail w) step
rest-batch w step h = quietly-here (stage_plan w.stage w) (tail_batches w.tail w) step h

module _ (w : Walk) (step : ℕ) where
  until-batch : (g : Blocks) (spare first : ℕ) (next : ℕ → ℕ → Plan SaleEnd) →
      plan_batch (until_accepted g MasksSpent spare first next) step [] ≡ batch_at (g.mask first) step
  unfolding until_accepted plan_batch
  until-batch g zero first next = refl
  until-batch g (suc spare) first next = refl

  closed-batch : (n bid spare first : ℕ) (best : Option ℕ) (who next : Linear) → n ≡ 0 →
      plan_batch (sale_from (blocks_of w.gates) n bid spare first best who next) step []
      ≡ batch_at (reveal_batch (who ∷ next ∷ []) (first ∷ (first + 1) ∷ []) ∷ []) step
  unfolding sale_from plan_batch
  closed-batch zero bid spare first best who next e = refl
  closed-batch (suc n) bid spare first best who next e = absurd (omega arith)

  pub batch-first : 0 < w.left → plan_batch (stage_plan First w) step [] ≡ batch_at ((blocks_of w.gates).mask w.first) step
  batch-first some =
      ap (λ (p : Plan SaleEnd). plan_batch p step [])
      (sale-open (blocks_of w.gates) w.left w.bid w.spare w.first w.best w.who w.next some)
      ∙ until-batch (blocks_of w.gates) w.spare w.first _

  pub batch-closed : w.left ≡ 0 → plan_batch (stage_plan First w) step []
      ≡ batch_at (reveal_batch (w.who ∷ w.next ∷ []) (w.first ∷ (w.first + 1) ∷ []) ∷ []) step
  batch-closed none = closed-batch w.left w.bid w.spare w.first w.best w.who w.next none

  pub batch-second : plan_batch (stage_plan Second w) step [] ≡ batch_at ((blocks_of w.gates).mask w.first) step
  batch-second = until-batch (blocks_of w.gates) w.spare w.first _

pub batch-masked-first : (w : Walk) (step : ℕ) → (step ≡ 0 → ⊥) → plan_batch (stage_plan FirstMasked w) step [] ≡ end_batch
unfolding plan_batch
batch-masked-first w step h = past-one _ step h

pub batch-masked-second : (w : Walk) (step : ℕ) → (step ≡ 0 → ⊥) → plan_batch (stage_plan SecondMasked w) step [] ≡ end_batch
unfolding plan_batch
batch-masked-second w step h = past-one _ step h

pub batch-price : (w : Walk) (winner step : ℕ) → plan_batch (stage_plan (Price winner) w) step [] ≡ end_batch
batch-price w winner step = read-batch 1 _ step

pub batch-sold : (w : Walk) (winner price step : ℕ) → plan_batch (stage_plan (Sold winner price) w) step [] ≡ end_batch
batch-sold w winner price step = ended-batch _ step

pub batch-spent : (w : Walk) (step : ℕ) → plan_batch (stage_plan Spent w) step [] ≡ end_batch
batch-spent w step = ended-batch _ step

-- what stands for the plan of a stage
module _ (w : Walk) (s : Stage) (e : w.stage ≡ s) (step : ℕ) where
  pub of-stage : {b c : Batch} → b ≡ c → plan_batch (stage_plan s w) step [] ≡ c → b ≡ plan_batch (stage_plan w.stage w) step []
  of-stage is stage = is ∙ sym (ap (λ (t : Stage). plan_batch (stage_plan t w) step []) e ∙ stage)

  pub first-of : {b : Batch} → step ≡ 0 → b ≡ plan_batch (stage_plan s w) 0 [] → b ≡ plan_batch (stage_plan w.stage w) step []
  first-of first is = of-stage is (ap (λ n. plan_batch (stage_plan s w) n []) first)

pub rest-at : (w : Walk) (t : Tail) → w.tail ≡ Some t → tail_batches w.tail w ≡ tail_batches (Some t) w
rest-at w t e = ap (λ (o : Option Tail). tail_batches o w) e
