-- A place in the auction's script, and the plan that is left from there.
use Rattle.std.specs.Prelude.{◌^◌, ◌≤◌, ◌<◌, ℕ, ◌+◌, ◌*◌, ◌/◌, List, ◌∷◌}
use Rattle.beet_gates.specs.declared.Batch.{Batch}
use Rattle.beet_bids.specs.declared.grid.TheConstants.{MOST_PRICES}
use Rattle.beet_gates.specs.Batches.{end_batch}
use Rattle.beet_gates.specs.Plans.{Plan, Ended, Block, Last}
use Rattle.beet_gates.specs.declared.Gates.TheVariants.{Tree}
use Rattle.beet_mask.specs.Mask.{mask_wires_of}
use Rattle.beet_compare.specs.Compare.{compare_wires_of}
use Rattle.beet_masking.specs.Blocks.{Blocks, after_mask, blocks_of, five_blocks}
use Rattle.beet_plan.specs.Auction.{search_plan, after_answer, price_with, with_mask}
use Rattle.beet_masking.specs.declared.TheConstants.{SPARE_MASKS}
use Rattle.beet_plan.specs.declared.Finish.{Finish}
use Rattle.beet_search.specs.declared.blocks.Dealers.{Dealers}
use Rattle.beet_search.specs.declared.blocks.Dealers.TheVariants.{Three, Five}
use Rattle.beet_search.specs.declared.walk.Stage.{Stage}
use Rattle.beet_search.specs.declared.walk.Stage.TheVariants.{Search, Masked, Borrow, Supply, Ended as StageEnded}
use Rattle.beet_search.specs.declared.walk.Walk.{Walk}

-- the blocks that they walk
abbrev pub blocks_among : Dealers → Blocks
blocks_among (Three gates) = blocks_of gates
blocks_among Five = five_blocks

abbrev pub stage_plan : Stage → Walk → Plan Finish
stage_plan Search w = search_plan (blocks_among w.dealers) w.policy w.prices w.left w.lo w.hi w.spare w.first
stage_plan Masked w =
    with_mask (blocks_among w.dealers) w.prices (search_plan (blocks_among w.dealers) w.policy w.prices w.left) w.lo
    w.hi w.spare w.first
stage_plan (Borrow c) w =
    let blocks = blocks_among w.dealers in
    Block (blocks.answer (after_mask blocks w.first) w.first c)
    (after_answer blocks (search_plan blocks w.policy w.prices w.left) w.lo w.hi w.spare w.first)
stage_plan (Supply volume) w = Last end_batch 1 (λ opened. price_with w.lo (volume ∷ opened))
stage_plan (StageEnded f) w = Ended f

-- the plan that is left
abbrev pub plan_at : Walk → Plan Finish
plan_at w = stage_plan w.stage w

-- the batches of the comparison at the middle place, with the mask that is in use
abbrev pub comparison_at : Walk → ℕ → List Batch
comparison_at w c =
    let blocks = blocks_among w.dealers in
    let mid = (w.lo + w.hi) / 2 in
    blocks.masked (after_mask blocks w.first) w.first mid (w.prices + mid)
    ∷ blocks.answer (after_mask blocks w.first) w.first c

-- how many comparisons may still use wires
abbrev pub blocks_left : Stage → ℕ → ℕ
blocks_left Search n = n
blocks_left Masked n = n + 1
blocks_left (Borrow c) n = n + 1
blocks_left (Supply volume) n = 0
blocks_left (StageEnded f) n = 0

-- 1 while a comparison is under way, whose two places differ
abbrev pub busy : Stage → ℕ
busy Search = 0
busy Masked = 1
busy (Borrow c) = 1
busy (Supply volume) = 0
busy (StageEnded f) = 0

-- the most wires of a mask and the comparison with it, whoever deals and whatever the gates
abbrev pub widest : ℕ
widest = mask_wires_of 5 + compare_wires_of Tree

-- the walk stays within the script's places and wires
pub record Fits (w : Walk) : Type 0 where
  pub in_order : w.lo + busy w.stage ≤ w.hi
  pub in_grid : w.hi ≤ w.prices
  pub small : w.prices ≤ MOST_PRICES
  pub few : w.spare ≤ SPARE_MASKS
  pub wires : w.first + widest * (blocks_left w.stage w.left + w.spare) < 2 ^ 32
