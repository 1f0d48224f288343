-- The auction's script as a plan: blocks of masks until one is accepted, the comparison with that mask, and on with the
-- search; at the end what the policy shows of the place found is opened. The third rejected mask ends it.
use Rattle.std.specs.Prelude.{◌≤◌, ◌+◌, ◌*◌, ◌/◌, ◌==◌, ℕ, zero, suc, List, [], ◌∷◌, length, slice_get, nat_lt}
use Rattle.std.specs.Prelude.{if◌then◌else◌}
use Rattle.beet_bids.specs.declared.grid.TheConstants.{MOST_PRICES}
use Rattle.beet_bids.specs.Grids.{Grid, comparisons_of}
use Rattle.beet_bids.specs.Outcomes.{shown_by}
use Rattle.beet_bids.specs.declared.outcomes.Policy.{Policy}
use Rattle.beet_gates.specs.declared.Batch.{Batch}
use Rattle.beet_gates.specs.Batches.{reveal_batch}
use Rattle.beet_gates.specs.Plans.{Plan, Ended, Block, Last, plan_batch}
use Rattle.beet_gates.specs.declared.Gates.{Gates}
use Rattle.beet_gates.specs.declared.Gates.TheVariants.{Tree}
use Rattle.beet_compare.specs.Compare.{compare_wires_of}
use Rattle.beet_masking.specs.Accepting.{most_rounds_for, until_accepted}
use Rattle.beet_masking.specs.Masks.{masks_for}
use Rattle.beet_masking.specs.Blocks.{Blocks, blocks_of, after_mask, after_both}
use Rattle.beet_masking.specs.declared.TheConstants.{MASK_COEFFICIENTS, SPARE_MASKS}
use Rattle.beet_plan.specs.declared.Finish.{Finish}
use Rattle.beet_plan.specs.declared.Finish.TheVariants.{Price, NoPrice, MasksSpent}

-- an auction: how many prices it has, its kind of gates, and what it opens beside the price; the supply at place k is
-- wire k, the demand there is wire `prices + k`
pub record Auction : Type 0 where
  pub prices : ℕ
  pub gates : Gates
  pub policy : Policy

abbrev pub auction_over : Grid → Auction
auction_over grid = record { prices = grid.prices; gates = grid.gates; policy = grid.policy }

-- the numbers of prices that an auction may have
pub record IsGridSize (prices : ℕ) : Type 0 where
  pub some : 1 ≤ prices
  pub few : prices ≤ MOST_PRICES

-- the comparison at a place, from the wire `first` on, with the mask whose block begins at `mask`
abbrev pub compare_plan : {F : Type 0} → Blocks → ℕ → ℕ → ℕ → ℕ → (ℕ → Plan F) → Plan F
compare_plan blocks prices first mask place next =
    Block (blocks.masked first mask place (prices + place) ∷ []) (λ c. Block (blocks.answer first mask c) next)

-- wires are opened, if there are some, and what they hold names the finish
abbrev pub opening_plan : {F : Type 0} → List ℕ → (List ℕ → F) → Plan F
opening_plan [] named = Ended (named [])
opening_plan (wire ∷ wires) named = Last (reveal_batch [] (wire ∷ wires)) (length (wire ∷ wires)) named

-- a price at a place, with the numbers that were opened there: the first is the volume, and the second the supply
abbrev pub price_with : ℕ → List ℕ → Finish
price_with place shown = Price place (slice_get shown 0) (slice_get shown 1)

-- the end of the search at a place: what the policy shows of it is opened, if it is a place of the grid
abbrev pub end_plan : Policy → ℕ → ℕ → Plan Finish
end_plan policy prices place =
    if nat_lt place prices then opening_plan (shown_by policy (prices + place) place) (price_with place)
    else Ended NoPrice

-- how a search goes on after the answer of a comparison: between which places, and from which free wire on
abbrev pub after_answer : Blocks → (ℕ → ℕ → ℕ → ℕ → Plan Finish) → ℕ → ℕ → ℕ → ℕ → ℕ → Plan Finish
after_answer blocks search lo hi spare mask answer =
    if answer == 1 then search lo ((lo + hi) / 2) spare (after_both blocks mask)
    else search ((lo + hi) / 2 + 1) hi spare (after_both blocks mask)

-- how it goes on with the mask that is accepted: the comparison at the middle place
abbrev pub with_mask : Blocks → ℕ → (ℕ → ℕ → ℕ → ℕ → Plan Finish) → ℕ → ℕ → ℕ → ℕ → Plan Finish
with_mask blocks prices search lo hi spare mask =
    compare_plan blocks prices (after_mask blocks mask) mask ((lo + hi) / 2)
    (after_answer blocks search lo hi spare mask)

-- the search between two places, with at most n comparisons, if so many masks may be rejected, and `first` is the
-- first free wire
unfoldable pub search_plan : Blocks → Policy → ℕ → ℕ → ℕ → ℕ → ℕ → ℕ → Plan Finish
search_plan blocks policy prices zero lo hi spare first = end_plan policy prices lo
search_plan blocks policy prices (suc n) lo hi spare first =
    if nat_lt lo hi then
    until_accepted blocks MasksSpent spare first (with_mask blocks prices (search_plan blocks policy prices n) lo hi)
    else end_plan policy prices lo

-- the whole script with these blocks: a mask for each comparison, and those that may be rejected
abbrev pub plan_with : Blocks → Policy → ℕ → Plan Finish
plan_with blocks policy prices =
    search_plan blocks policy prices (comparisons_of prices) 0 prices SPARE_MASKS (2 * prices)

-- the script of an auction
abbrev pub auction_plan : Auction → Plan Finish
auction_plan a = plan_with (blocks_of a.gates) a.policy a.prices

-- the batch after so many, with these numbers opened
abbrev pub auction_batch : Auction → ℕ → List ℕ → Batch
auction_batch a done opened = plan_batch (auction_plan a) done opened

-- the bounds of the script: rounds, mask words and coefficients of each server, which the number of prices tells, and
-- wires; for each comparison there is room for the wires of a tree, whatever the gates
abbrev pub most_rounds_with : Blocks → ℕ → ℕ
most_rounds_with blocks prices = most_rounds_for blocks (comparisons_of prices) 1

abbrev pub most_rounds : Auction → ℕ
most_rounds a = most_rounds_with (blocks_of a.gates) a.prices

abbrev pub most_masks_of : ℕ → ℕ
most_masks_of prices = masks_for (comparisons_of prices)

abbrev pub most_coefficients_of : ℕ → ℕ
most_coefficients_of prices = MASK_COEFFICIENTS * most_masks_of prices

abbrev pub most_masks : Auction → ℕ
most_masks a = most_masks_of a.prices

abbrev pub most_coefficients : Auction → ℕ
most_coefficients a = most_coefficients_of a.prices

abbrev pub most_wires_with : Blocks → ℕ → ℕ
most_wires_with blocks prices =
    2 * prices + blocks.mask_wires * most_masks_of prices + compare_wires_of Tree * comparisons_of prices

abbrev pub most_wires : Auction → ℕ
most_wires a = most_wires_with (blocks_of a.gates) a.prices
