-- A place in a sale's script, and the plan that is left from there.
use Rattle.std.specs.Prelude.{◌^◌, ◌≤◌, ◌<◌, ◌==◌, ℕ, ◌+◌, ◌-◌, ◌*◌, List, [], ◌∷◌, length, Option, None, Some}
use Rattle.std.specs.Prelude.{if◌then◌else◌}
use Rattle.beet_gates.specs.Batches.{end_batch}
use Rattle.beet_gates.specs.Linears.{one_term}
use Rattle.beet_gates.specs.Plans.{Plan, Ended, Last}
use Rattle.beet_gates.specs.declared.Batch.{Batch}
use Rattle.beet_gates.specs.declared.Linear.{Linear}
use Rattle.beet_masking.specs.Blocks.{Blocks, blocks_of}
use Rattle.beet_masking.specs.declared.TheConstants.{SPARE_MASKS}
use Rattle.beet_sale_plan.specs.Selections.{quietly, multiplied, with_last, result_wire, masked_plan, selection_plan}
use Rattle.beet_sale_plan.specs.Sale.{best_lets, best_wire, difference_let, less_let, first_selection, second_selection}
use Rattle.beet_sale_plan.specs.Sale.{sale_from, sold, sum_let}
use Rattle.beet_sale_plan.specs.declared.SaleEnd.{SaleEnd}
use Rattle.beet_sale_plan.specs.declared.SaleEnd.TheVariants.{MasksSpent}
use Rattle.beet_sale_plan.specs.declared.TheConstants.{MOST_SALE_BIDDERS, SELECTION_WIRES}
use Rattle.beet_sale_script.specs.declared.walk.Stage.{Stage}
use Rattle.beet_sale_script.specs.declared.walk.Stage.TheVariants.{First, FirstMasked, Second, SecondMasked}
use Rattle.beet_sale_script.specs.declared.walk.Stage.TheVariants.{Price, Sold, Spent}
use Rattle.beet_sale_script.specs.declared.walk.Tail.{Tail}
use Rattle.beet_sale_script.specs.declared.walk.Tail.TheVariants.{AfterFirst, AfterSecond}
use Rattle.beet_sale_script.specs.declared.walk.Walk.{Walk}

-- what follows the second selection of a bid, if so many bids are left after it, and the first
abbrev pub after_second : Blocks → ℕ → ℕ → ℕ → ℕ → ℕ → Plan SaleEnd
after_second g n bid product left free =
    sale_from g n (bid + 1) left (result_wire g (free + 3) + 2 + 1) (Some (free + 1))
    (one_term (bid + 1) (1, product + 1)) (sum_let (free + 2) (result_wire g (free + 3) + 2))

abbrev pub second_plan : Blocks → ℕ → ℕ → ℕ → ℕ → Linear → ℕ → ℕ → Plan SaleEnd
second_plan g n bid best product next spare first =
    selection_plan g MasksSpent (second_selection g bid best product next) spare first (after_second g n bid product)

abbrev pub after_first : Blocks → ℕ → ℕ → Option ℕ → Linear → ℕ → ℕ → Plan SaleEnd
after_first g n bid best next left free =
    let product = result_wire g (free + length (best_lets best)) + 4 in
    second_plan g n bid (best_wire best free) product next left (product + 2)

abbrev pub stage_plan : Stage → Walk → Plan SaleEnd
stage_plan First w = sale_from (blocks_of w.gates) w.left w.bid w.spare w.first w.best w.who w.next
stage_plan FirstMasked w =
    masked_plan (blocks_of w.gates) (first_selection (blocks_of w.gates) w.bid w.best w.who) w.first
    (after_first (blocks_of w.gates) (w.left - 1) w.bid w.best w.next w.spare)
stage_plan Second w =
    second_plan (blocks_of w.gates) (w.left - 1) w.bid (best_wire w.best 0) w.product w.next w.spare w.first
stage_plan SecondMasked w =
    masked_plan (blocks_of w.gates) (second_selection (blocks_of w.gates) w.bid (best_wire w.best 0) w.product w.next)
    w.first (after_second (blocks_of w.gates) (w.left - 1) w.bid w.product w.spare)
stage_plan (Price winner) w = Last end_batch 1 (λ opened. sold (winner ∷ opened))
stage_plan (Sold winner price) w = Ended (sold (winner ∷ price ∷ []))
stage_plan Spent w = Ended MasksSpent

-- the batches that come before, and open nothing
abbrev pub tail_batches : Option Tail → Walk → List Batch
tail_batches None w = []
tail_batches (Some (AfterFirst from mask c)) w =
    let g = blocks_of w.gates in
    let o = result_wire g from in
    let lets = w.who ∷ difference_let (best_wire w.best 0) w.bid ∷ less_let (o + 1) (w.bid + 1) ∷ [] in
    with_last (multiplied lets ((o, o + 2) ∷ (o, o + 3) ∷ [])) (g.answer from mask c)
tail_batches (Some (AfterSecond free mask c)) w =
    let g = blocks_of w.gates in
    let o = result_wire g (free + 3) in
    with_last (multiplied (difference_let free (free + 2) ∷ []) ((o, o + 1) ∷ [])) (g.answer (free + 3) mask c)

-- the plan that is left
abbrev pub plan_at : Walk → Plan SaleEnd
plan_at w = quietly (tail_batches w.tail w) (stage_plan w.stage w)

-- the walk after the product of a mask's bits, if this is the stage after an accepted mask
abbrev pub after_product : Walk → ℕ → Stage → Walk
after_product w product masked =
    if product == 1 then
    (if w.spare == 0 then record w { tail = None; stage = Spent }
    else record w { tail = None; first = w.first + (blocks_of w.gates).mask_wires; spare = w.spare - 1 })
    else record w { tail = None; stage = masked }

-- 1 within the selections of a bid
abbrev pub busy : Stage → ℕ
busy First = 0
busy FirstMasked = 1
busy Second = 1
busy SecondMasked = 1
busy (Price winner) = 0
busy (Sold winner price) = 0
busy Spent = 0

-- how many selections may still use wires, if so many bids are left
abbrev pub selections_left : Stage → ℕ → ℕ
selections_left First n = 2 * n
selections_left FirstMasked n = 2 * n
selections_left Second n = 2 * n - 1
selections_left SecondMasked n = 2 * n - 1
selections_left (Price winner) n = 0
selections_left (Sold winner price) n = 0
selections_left Spent n = 0

-- where the wires of the tail stand
abbrev pub tail_end : Option Tail → ℕ
tail_end None = 0
tail_end (Some (AfterFirst from mask c)) = from + 1100 + mask
tail_end (Some (AfterSecond free mask c)) = free + 1100 + mask

-- the walk stays within the script's bids and wires
pub record Fits (w : Walk) : Type 0 where
  pub some : busy w.stage ≤ w.left
  pub few : w.bid + w.left ≤ MOST_SALE_BIDDERS
  pub spare : w.spare ≤ SPARE_MASKS
  pub wires : w.first + SELECTION_WIRES * (selections_left w.stage w.left + w.spare) < 2 ^ 30
  pub product : w.product < 2 ^ 31
  pub tail : tail_end w.tail < 2 ^ 32

-- a winner's number fits, if there is one
abbrev pub IsSmallStage : Stage → Type 0
IsSmallStage First = Unit {0}
IsSmallStage FirstMasked = Unit {0}
IsSmallStage Second = Unit {0}
IsSmallStage SecondMasked = Unit {0}
IsSmallStage (Price winner) = Unit {0}
IsSmallStage (Sold winner price) = winner < 2 ^ 32
IsSmallStage Spent = Unit {0}
