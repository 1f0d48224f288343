-- The auction's script among five servers, as a plan.
use Rattle.std.specs.Prelude.{ℕ, List}
use Rattle.beet_bids.specs.Grids.{Grid}
use Rattle.beet_bids.specs.declared.outcomes.Policy.{Policy}
use Rattle.beet_gates.specs.declared.Batch.{Batch}
use Rattle.beet_gates.specs.Plans.{Plan, plan_batch}
use Rattle.beet_masking.specs.Blocks.{five_blocks}
use Rattle.beet_plan.specs.Auction.{most_coefficients_of, most_masks_of, most_rounds_with, most_wires_with, plan_with}
use Rattle.beet_plan.specs.declared.Finish.{Finish}

-- an auction among five servers: how many prices it has, and what it opens beside the price; its gates are chains
pub record FiveAuction : Type 0 where
  pub prices : ℕ
  pub policy : Policy

abbrev pub five_over : Grid → FiveAuction
five_over grid = record { prices = grid.prices; policy = grid.policy }

-- the script of an auction
abbrev pub five_plan : FiveAuction → Plan Finish
five_plan a = plan_with five_blocks a.policy a.prices

-- the batch after so many, with these numbers opened
abbrev pub five_batch : FiveAuction → ℕ → List ℕ → Batch
five_batch a done opened = plan_batch (five_plan a) done opened

-- the bounds of the script: rounds, mask words and secrets of each server, and wires
abbrev pub most_rounds : FiveAuction → ℕ
most_rounds a = most_rounds_with five_blocks a.prices

abbrev pub most_masks : FiveAuction → ℕ
most_masks a = most_masks_of a.prices

abbrev pub most_secrets : FiveAuction → ℕ
most_secrets a = most_coefficients_of a.prices

abbrev pub most_wires : FiveAuction → ℕ
most_wires a = most_wires_with five_blocks a.prices
