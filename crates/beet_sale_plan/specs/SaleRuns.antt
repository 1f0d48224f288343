-- How a sale ends on plain values.
use Rattle.std.specs.Prelude.{◌≡◌, ℕ, List, ◌++◌, length, Some, All, if◌then◌else◌}
use Rattle.beet_field.specs.declared.trio.Trio.{Trio}
use Rattle.beet_gates.specs.Clear.{Values, clear_values, rounds_run}
use Rattle.beet_gates.specs.Plans.{plan_finish}
use Rattle.beet_masking.specs.Accepting.{masked_rounds}
use Rattle.beet_masking.specs.Blocks.{blocks_of}
use Rattle.beet_masking.specs.Masks.{AreMasks, is_spent, mask_at}
use Rattle.beet_sale_plan.specs.Outcome.{IsBid}
use Rattle.beet_sale_plan.specs.Sale.{Sale, bidders_of, sale_plan, sale_batch, comparisons, most_rounds}
use Rattle.beet_sale_plan.specs.declared.SaleEnd.{SaleEnd}
use Rattle.beet_sale_plan.specs.declared.SaleEnd.TheVariants.{Sold, MasksSpent}

-- the values at the end of a run on these bids and mask words, and its number of rounds
abbrev pub values_of_sale : Sale → List ℕ → Trio (List ℕ) → Values
values_of_sale sale bids words = clear_values (sale_batch sale) (most_rounds sale) bids words

abbrev pub rounds_of_sale : Sale → List ℕ → Trio (List ℕ) → ℕ
rounds_of_sale sale bids words = rounds_run (sale_batch sale) (most_rounds sale) bids words

-- the finish of a run with these masks: sold, unless it is spent
abbrev pub sale_finish : Sale → (ℕ → ℕ) → ℕ → ℕ → SaleEnd
sale_finish sale masks winner price = if is_spent masks (comparisons sale) then MasksSpent else Sold winner price

-- the number of rounds of a run with these masks
abbrev pub sale_rounds : Sale → (ℕ → ℕ) → ℕ
sale_rounds sale masks = masked_rounds (blocks_of sale.gates) masks (comparisons sale) 1

-- the run of a sale on these bids and mask words ends sold so, unless it is spent, and has the rounds that its masks
-- say
pub record SaleEnds (sale : Sale) (bids : List ℕ) (words : Trio (List ℕ)) (winner price : ℕ) : Type 0 where
  pub ends : plan_finish (sale_plan sale) (values_of_sale sale bids words).opened
      ≡ Some (sale_finish sale (mask_at words) winner price)
  pub rounds : rounds_of_sale sale bids words ≡ sale_rounds sale (mask_at words)

-- a run of a sale on bids opens these numbers first
pub record AreOpened (sale : Sale) (opened : List ℕ) : Type 0 where
  pub bids : List ℕ
  pub words : Trio (List ℕ)
  pub later : List ℕ
  pub count : length bids ≡ bidders_of sale
  pub limits : All IsBid bids
  pub masks : AreMasks words
  pub are : (values_of_sale sale bids words).opened ≡ opened ++ later
