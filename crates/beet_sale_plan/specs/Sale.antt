-- The script of a sealed sale. The bids are the inputs. The greatest bid so far, its bidder and the second greatest are
-- kept: of each further bid it is selected whether it is greater, and then of the lesser of both whether it is greater
-- than the second.
use Rattle.std.specs.Prelude.{◌≤◌, ◌+◌, ◌-◌, ◌*◌, ℕ, zero, suc, List, [], ◌∷◌, length, slice_index, Option, Some, None}
use Rattle.beet_field.specs.Field.{p}
use Rattle.beet_gates.specs.declared.Batch.{Batch}
use Rattle.beet_gates.specs.declared.Gates.{Gates}
use Rattle.beet_gates.specs.declared.Linear.{Linear}
use Rattle.beet_gates.specs.Batches.{reveal_batch}
use Rattle.beet_gates.specs.Linears.{three_terms, two_terms, one_term}
use Rattle.beet_gates.specs.Plans.{Plan, Last, plan_batch}
use Rattle.beet_masking.specs.Accepting.{most_rounds_for}
use Rattle.beet_masking.specs.Blocks.{Blocks, blocks_of}
use Rattle.beet_masking.specs.declared.TheConstants.{SPARE_MASKS}
use Rattle.beet_sale_plan.specs.Selections.{Selection, selection_plan, result_wire}
use Rattle.beet_sale_plan.specs.declared.SaleEnd.{SaleEnd}
use Rattle.beet_sale_plan.specs.declared.SaleEnd.TheVariants.{Sold, MasksSpent}
use Rattle.beet_sale_plan.specs.declared.TheConstants.{FEWEST_SALE_BIDDERS, MOST_SALE_BIDDERS, SELECTION_WIRES}
use Rattle.beet_sale_plan.specs.declared.TheConstants.{BIDDER_MASKS, BIDDER_COEFFICIENTS, BIDDER_WIRES}

-- a sale: how many bidders it has beside the first, and its kind of gates; the bid of bidder k + 1 is wire k
pub record Sale : Type 0 where
  pub further : ℕ
  pub gates : Gates

-- how many bidders it has
abbrev pub bidders_of : Sale → ℕ
bidders_of sale = sale.further + 1

-- the sale of so many bidders, one at least
abbrev pub sale_of : ℕ → Gates → Sale
sale_of bidders gates = record { further = bidders - 1; gates = gates }

-- the numbers of bidders that a sale may have
pub record IsSaleSize (bidders : ℕ) : Type 0 where
  pub some : FEWEST_SALE_BIDDERS ≤ bidders
  pub few : bidders ≤ MOST_SALE_BIDDERS

-- x - y, x + y and x + y - z of wires, and a wire less a number
abbrev pub difference_let : ℕ → ℕ → Linear
difference_let x y = two_terms 0 (1, x) (p - 1, y)

abbrev pub sum_let : ℕ → ℕ → Linear
sum_let x y = two_terms 0 (1, x) (1, y)

abbrev pub rest_let : ℕ → ℕ → ℕ → Linear
rest_let x y z = three_terms 0 (1, x) (1, y) (p - 1, z)

abbrev pub less_let : ℕ → ℕ → Linear
less_let x n = one_term (p - n) (1, x)

-- the wire of the greatest bid so far, or none while the let best := bid 1 is still to be made; that let, if it is
-- to be made; and the wire, where that let stands at the first free wire
abbrev pub best_lets : Option ℕ → List Linear
best_lets None = one_term 0 (1, 0) ∷ []
best_lets (Some wire) = []

abbrev pub best_wire : Option ℕ → ℕ → ℕ
best_wire None free = free
best_wire (Some wire) free = wire

-- whether the greatest bid so far reaches the bid at a wire: its products with best - bid and who - i, if the let of
-- who stands first
abbrev pub first_selection : Blocks → ℕ → Option ℕ → Linear → ℕ → Selection
first_selection blocks bid best who free =
    let wire = best_wire best free in
    let o = result_wire blocks (free + length (best_lets best)) in
    record {
      before = best_lets best;
      left = wire;
      right = bid;
      after = who ∷ difference_let wire bid ∷ less_let (o + 1) (bid + 1) ∷ [];
      pairs = (o, o + 2) ∷ (o, o + 3) ∷ [];
    }

-- whether the second greatest bid so far reaches the lesser of the two: next, best' := bid + product and
-- loser := best + bid - best' stand before
abbrev pub second_selection : Blocks → ℕ → ℕ → ℕ → Linear → ℕ → Selection
second_selection blocks bid best product next free =
    let o = result_wire blocks (free + 3) in
    record {
      before = next ∷ sum_let bid product ∷ rest_let best bid (free + 1) ∷ [];
      left = free;
      right = free + 2;
      after = difference_let free (free + 2) ∷ [];
      pairs = (o, o + 1) ∷ [];
    }

-- the winner and the price
abbrev pub sold : List ℕ → SaleEnd
sold opened = Sold (slice_index opened 0) (slice_index opened 1)

-- so many further bids, the first at this wire, if so many masks may be rejected and the first free wire is `first`;
-- the lets who and next are made in the first batch that uses them
unfoldable pub sale_from : Blocks → ℕ → ℕ → ℕ → ℕ → Option ℕ → Linear → Linear → Plan SaleEnd
sale_from blocks zero bid spare first best who next =
    Last (reveal_batch (who ∷ next ∷ []) (first ∷ (first + 1) ∷ [])) 2 sold
sale_from blocks (suc n) bid spare first best who next =
    selection_plan blocks MasksSpent (first_selection blocks bid best who) spare first (λ spare free.
    let product = result_wire blocks (free + length (best_lets best)) + 4 in
    let second = second_selection blocks bid (best_wire best free) product next in
    selection_plan blocks MasksSpent second spare (product + 2) (λ spare free.
    let product' = result_wire blocks (free + 3) + 2 in
    sale_from blocks n (bid + 1) spare (product' + 1) (Some (free + 1)) (one_term (bid + 1) (1, product + 1))
    (sum_let (free + 2) product')))

-- the whole script: it begins with best := bid 1, who := 1 and next := 0
abbrev pub sale_plan : Sale → Plan SaleEnd
sale_plan sale =
    sale_from (blocks_of sale.gates) sale.further 1 SPARE_MASKS (bidders_of sale) None (one_term 1 (0, 0))
    (one_term 0 (0, 0))

-- the batch after so many, with these numbers opened
abbrev pub sale_batch : Sale → ℕ → List ℕ → Batch
sale_batch sale done opened = plan_batch (sale_plan sale) done opened

-- the comparisons of a sale: two for each bid but the first
abbrev pub comparisons : Sale → ℕ
comparisons sale = 2 * sale.further

-- the bounds of the script: rounds, mask words and coefficients of each server, and wires
abbrev pub most_rounds : Sale → ℕ
most_rounds sale = most_rounds_for (blocks_of sale.gates) (comparisons sale) 1

abbrev pub most_masks_of : ℕ → ℕ
most_masks_of bidders = BIDDER_MASKS * bidders

abbrev pub most_coefficients_of : ℕ → ℕ
most_coefficients_of bidders = BIDDER_COEFFICIENTS * bidders

abbrev pub most_wires_of : ℕ → ℕ
most_wires_of bidders = BIDDER_WIRES * bidders + SELECTION_WIRES * most_masks_of bidders

abbrev pub most_masks : Sale → ℕ
most_masks sale = most_masks_of (bidders_of sale)

abbrev pub most_coefficients : Sale → ℕ
most_coefficients sale = most_coefficients_of (bidders_of sale)

abbrev pub most_wires : Sale → ℕ
most_wires sale = most_wires_of (bidders_of sale)
