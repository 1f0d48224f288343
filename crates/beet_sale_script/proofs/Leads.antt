-- The plan that is left after a number.
use Rattle.std.proofs.Common.{◌≡◌, ℕ, zero, suc, ◌+◌, ◌-◌, ◌<◌, ◌≤◌, [], ◌∷◌, length, Option, Some, None, refl, ap, sym, ◌∙◌}
use Rattle.std.proofs.Common.{arith, inl, inr, ◌≢◌, eq-eqb, ne_eqb}
use Rattle.std.specs.Prelude.{◌==◌}
use Rattle.std.proofs.lemmas.Bool.{cases_eq, cases_Bool}
use Rattle.beet_gates.specs.declared.Linear.{Linear}
use Rattle.beet_gates.specs.declared.Gates.{Gates}
use Rattle.beet_gates.specs.declared.Gates.TheVariants.{Chain, Tree}
use Rattle.beet_gates.specs.Batches.{end_batch}
use Rattle.beet_gates.specs.Linears.{one_term}
use Rattle.beet_gates.specs.Plans.{Plan, Ended, Last, plan_after}
use Rattle.beet_masking.specs.Accepting.{after_product as after_mask_product, until_accepted}
use Rattle.beet_masking.specs.Blocks.{Blocks, blocks_of, after_mask}
use Rattle.beet_masking.proofs.Standing.{until-open}
use Rattle.beet_sale_plan.specs.Selections.{masked_plan, selection_plan, result_wire}
use Rattle.beet_sale_plan.specs.Sale.{best_lets, best_wire, first_selection, second_selection, sale_from, sold, sum_let}
use Rattle.beet_sale_plan.specs.declared.SaleEnd.{SaleEnd}
use Rattle.beet_sale_plan.specs.declared.SaleEnd.TheVariants.{MasksSpent}
use Rattle.beet_sale_plan.proofs.Quietly.{quietly-after}
use Rattle.beet_sale_script.specs.Walk.{busy, plan_at, stage_plan, tail_batches, after_first, after_second, after_product}
use Rattle.beet_sale_script.specs.declared.walk.Stage.{Stage}
use Rattle.beet_sale_script.specs.declared.walk.Stage.TheVariants.{First, FirstMasked, Second, SecondMasked, Price, Sold, Spent}
use Rattle.beet_sale_script.specs.declared.walk.Tail.TheVariants.{AfterFirst, AfterSecond}
use Rattle.beet_sale_script.specs.declared.walk.Walk.{Walk}

-- the plan after a number, whatever comes before
stage-after : (w : Walk) (s : Stage) → w.stage ≡ s → (x : ℕ) → plan_after (plan_at w) x ≡ plan_after (stage_plan s w) x
stage-after w s e x =
    quietly-after (stage_plan w.stage w) (tail_batches w.tail w) x ∙ ap (λ (t : Stage). plan_after (stage_plan t w) x) e

pub first-after : (w : Walk) → w.stage ≡ FirstMasked → (c from best product first : ℕ) →
    (let g = blocks_of w.gates in
    let free = after_mask g w.first in
    from ≡ free + length (best_lets w.best) → best ≡ best_wire w.best free →
    product ≡ result_wire g (free + length (best_lets w.best)) + 4 →
    first ≡ result_wire g (free + length (best_lets w.best)) + 4 + 2 →
    plan_at (record w {
      stage = Second;
      tail = Some (AfterFirst from w.first c);
      best = Some best;
      product = product;
      first = first;
    }) ≡ plan_after (plan_at w) c)
first-after w e c from best product first a b d h =
    (λ i. plan_at (record w {
      stage = Second;
      tail = Some (AfterFirst (a i) w.first c);
      best = Some (b i);
      product = d i;
      first = h i;
    }))
    ∙ sym (stage-after w FirstMasked e c)

pub second-after : (w : Walk) → w.stage ≡ SecondMasked → (c free left first best : ℕ) (who next : Linear) →
    (let g = blocks_of w.gates in
    let at = after_mask g w.first in
    free ≡ at → left ≡ w.left - 1 → first ≡ result_wire g (at + 3) + 2 + 1 → best ≡ at + 1 →
    who ≡ one_term (w.bid + 1) (1, w.product + 1) → next ≡ sum_let (at + 2) (result_wire g (at + 3) + 2) →
    plan_at (record w {
      stage = First;
      tail = Some (AfterSecond free w.first c);
      left = left;
      bid = w.bid + 1;
      first = first;
      best = Some best;
      who = who;
      next = next;
    }) ≡ plan_after (plan_at w) c)
second-after w e c free left first best who next a l b d h k =
    (λ i. plan_at (record w {
      stage = First;
      tail = Some (AfterSecond (a i) w.first c);
      left = l i;
      bid = w.bid + 1;
      first = b i;
      best = Some (d i);
      who = h i;
      next = k i;
    }))
    ∙ sym (stage-after w SecondMasked e c)

-- what comes after the product of a mask
until-after : (g : Blocks) (spare first : ℕ) (next : ℕ → ℕ → Plan SaleEnd) (x : ℕ) →
    plan_after (until_accepted g MasksSpent spare first next) x ≡ after_mask_product g MasksSpent spare first next x
until-after g spare first next x = ap (λ (p : Plan SaleEnd). plan_after p x) (until-open g MasksSpent spare first next)

pub sale-open : (g : Blocks) (n bid spare first : ℕ) (best : Option ℕ) (who next : Linear) → 0 < n →
    sale_from g n bid spare first best who next
    ≡ selection_plan g MasksSpent (first_selection g bid best who) spare first (after_first g (n - 1) bid best next)
unfolding sale_from
sale-open g zero bid spare first best who next h = absurd (omega arith)
sale-open g (suc n) bid spare first best who next h = let e : suc n - 1 ≡ n = omega arith in rw e refl

module _ (w : Walk) (x : ℕ) (stage : Stage) (next : ℕ → ℕ → Plan SaleEnd) where
  product-after : stage_plan stage (record w { tail = None; stage = stage }) ≡ next w.spare w.first →
      (w.spare ≢ 0 →
      stage_plan w.stage (record w { tail = None; first = w.first + (blocks_of w.gates).mask_wires; spare = w.spare - 1 })
      ≡ until_accepted (blocks_of w.gates) MasksSpent (w.spare - 1) (after_mask (blocks_of w.gates) w.first) next) →
      plan_at (after_product w x stage) ≡ after_mask_product (blocks_of w.gates) MasksSpent w.spare w.first next x
  product-after accepted rejected = elim (cases_Bool (x == 1)) [
    | inr f ↦ rw f accepted
    | inl t ↦ elim (cases_eq w.spare 0) [
      | inl none ↦ rw (t, eq-eqb w.spare 0 none) refl
      | inr some ↦ rw (t, ne_eqb w.spare 0 some) (rejected some)
    ]
  ]

pub first-open : (w : Walk) → w.stage ≡ First → 0 < w.left → (x : ℕ) (r : Walk) → r ≡ after_product w x FirstMasked →
    plan_at r ≡ plan_after (plan_at w) x
first-open w e some x r is =
    let g = blocks_of w.gates in
    let next = after_first g (w.left - 1) w.bid w.best w.next in
    let plan = sale-open g w.left w.bid w.spare w.first w.best w.who w.next some in
    let masked : ℕ → ℕ → Plan SaleEnd = λ left mask. masked_plan g (first_selection g w.bid w.best w.who) mask (next left) in
    ap plan_at is
    ∙ product-after w x FirstMasked masked refl
    (λ not. ap (λ (s : Stage). stage_plan s (record w { tail = None; first = w.first + g.mask_wires; spare = w.spare - 1 })) e
    ∙ sale-open g w.left w.bid (w.spare - 1) (w.first + g.mask_wires) w.best w.who w.next some)
    ∙ sym (stage-after w First e x ∙ ap (λ (p : Plan SaleEnd). plan_after p x) plan ∙ until-after g w.spare w.first masked x)

pub second-open : (w : Walk) → w.stage ≡ Second → (x : ℕ) (r : Walk) → r ≡ after_product w x SecondMasked →
    plan_at r ≡ plan_after (plan_at w) x
second-open w e x r is =
    let g = blocks_of w.gates in
    let next = after_second g (w.left - 1) w.bid w.product in
    let choose = second_selection g w.bid (best_wire w.best 0) w.product w.next in
    let masked : ℕ → ℕ → Plan SaleEnd = λ left mask. masked_plan g choose mask (next left) in
    ap plan_at is
    ∙ product-after w x SecondMasked masked refl
    (λ not. ap (λ (s : Stage). stage_plan s (record w { tail = None; first = w.first + g.mask_wires; spare = w.spare - 1 })) e)
    ∙ sym (stage-after w Second e x ∙ until-after g w.spare w.first masked x)

-- where no bid is left
closed : (g : Blocks) (n bid spare first : ℕ) (best : Option ℕ) (who next : Linear) → n ≡ 0 → (x : ℕ) →
    plan_after (sale_from g n bid spare first best who next) x ≡ Last end_batch 1 (λ opened. sold (x ∷ opened))
unfolding sale_from
closed g zero bid spare first best who next e x = refl
closed g (suc n) bid spare first best who next e x = absurd (omega arith)

pub first-closed : (w : Walk) → w.stage ≡ First → w.left ≡ 0 → (x : ℕ) →
    Last end_batch 1 (λ opened. sold (x ∷ opened)) ≡ plan_after (plan_at w) x
first-closed w e none x =
    sym (stage-after w First e x ∙ closed (blocks_of w.gates) w.left w.bid w.spare w.first w.best w.who w.next none x)

pub price-after : (w : Walk) (winner : ℕ) → w.stage ≡ Price winner → (x : ℕ) →
    Ended (sold (winner ∷ x ∷ [])) ≡ plan_after (plan_at w) x
price-after w winner e x = sym (stage-after w (Price winner) e x)

pub sold-after : (w : Walk) (winner price : ℕ) → w.stage ≡ Sold winner price → (x : ℕ) →
    plan_at (record w { tail = None }) ≡ plan_after (plan_at w) x
sold-after w winner price e x =
    ap (λ (s : Stage). stage_plan s (record w { tail = None })) e ∙ sym (stage-after w (Sold winner price) e x)

pub spent-after : (w : Walk) → w.stage ≡ Spent → (x : ℕ) → plan_at (record w { tail = None }) ≡ plan_after (plan_at w) x
spent-after w e x = ap (λ (s : Stage). stage_plan s (record w { tail = None })) e ∙ sym (stage-after w Spent e x)

-- a comparison appends at most 366 wires, and one at least
pub widest : (gates : Gates) → ((blocks_of gates).compare_wires ≤ 366) × (1 ≤ (blocks_of gates).compare_wires)
widest Chain = (omega arith, omega arith)
widest Tree = (omega arith, omega arith)

pub busy-at : (w : Walk) (s : Stage) → w.stage ≡ s → busy w.stage ≤ w.left → busy s ≤ w.left
busy-at w s e h = rw e at h

-- the let of the first bid is one at most
pub one-best : (best : Option ℕ) → length (best_lets best) ≤ 1
one-best None = omega arith
one-best (Some wire) = omega arith
