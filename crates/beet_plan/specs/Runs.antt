-- How the auction's run on plain values ends, and after how many rounds.
use Rattle.std.specs.Prelude.{◌≡◌, ◌+◌, ℕ, List, length, slice_index, Option, Some, nat_lt, if◌then◌else◌}
use Rattle.beet_field.specs.declared.trio.Trio.{Trio}
use Rattle.beet_gates.specs.Clear.{clear_values, rounds_dealt, rounds_run, values_dealt}
use Rattle.beet_gates.specs.Plans.{plan_batch, plan_finish}
use Rattle.beet_bids.specs.Outcomes.{shown_by}
use Rattle.beet_bids.specs.declared.outcomes.Policy.{Policy}
use Rattle.beet_bids.specs.declared.outcomes.Policy.TheVariants.{Price as PriceAlone, Volume, Full}
use Rattle.beet_bids.specs.declared.outcomes.Outcome.{Outcome}
use Rattle.beet_bids.specs.declared.outcomes.Outcome.TheVariants.{Price as OutcomePrice, No}
use Rattle.beet_compare.specs.Compare.{is_doubled_even}
use Rattle.beet_masking.specs.Blocks.{Blocks, blocks_of}
use Rattle.beet_plan.specs.Auction.{Auction, auction_plan, auction_batch, most_rounds, most_rounds_with, plan_with}
use Rattle.beet_plan.specs.Auction.{price_with}
use Rattle.beet_masking.specs.Accepting.{masked_rounds}
use Rattle.beet_masking.specs.Masks.{mask_at, is_spent}
use Rattle.beet_plan.specs.Search.{path, place_found}
use Rattle.beet_plan.specs.declared.Finish.{Finish}
use Rattle.beet_plan.specs.declared.Finish.TheVariants.{Price, NoPrice, MasksSpent}

-- the rounds in which a policy opens something at the place of the price
abbrev pub opening_rounds : Policy → ℕ
opening_rounds PriceAlone = 0
opening_rounds Volume = 1
opening_rounds Full = 1

-- the number of rounds of a run whose search ends at z; if there is a price, what the policy shows is opened at the end
abbrev pub run_rounds_with : Blocks → Policy → ℕ → (ℕ → ℕ) → ℕ → ℕ
run_rounds_with blocks policy prices masks z =
    masked_rounds blocks masks (length (path prices z)) (if nat_lt z prices then opening_rounds policy else 0)

abbrev pub run_rounds : Auction → (ℕ → ℕ) → ℕ → ℕ
run_rounds a masks z = run_rounds_with (blocks_of a.gates) a.policy a.prices masks z

-- the finish of a run whose search over these supplies and demands ends at z, if it is not spent
abbrev pub found : Policy → ℕ → (ℕ → ℕ) → (ℕ → ℕ) → ℕ → Finish
found policy prices supply demand z =
    if nat_lt z prices then price_with z (shown_by policy (demand z) (supply z)) else NoPrice

-- the finish of a run whose search ends at z
abbrev pub run_finish : ℕ → (ℕ → ℕ) → ℕ → Finish → Finish
run_finish prices masks z finish = if is_spent masks (length (path prices z)) then MasksSpent else finish

-- the finish that the script names after a run on these inputs and mask words, and the number of rounds of that run
abbrev pub finish_run : Auction → List ℕ → Trio (List ℕ) → Option Finish
finish_run a inputs words =
    plan_finish (auction_plan a) (clear_values (auction_batch a) (most_rounds a) inputs words).opened

abbrev pub rounds_of_run : Auction → List ℕ → Trio (List ℕ) → ℕ
rounds_of_run a inputs words = rounds_run (auction_batch a) (most_rounds a) inputs words

-- a run with these blocks on inputs and deals, if these are the masks: it ends with this finish, unless it is spent,
-- and has the rounds of a search that ends at z
pub record EndsWith (blocks : Blocks) (policy : Policy) (prices : ℕ) (inputs : List ℕ) (deals : ℕ → List ℕ)
    (masks : ℕ → ℕ) (z : ℕ) (finish : Finish) : Type 0 where
  pub ends : plan_finish (plan_with blocks policy prices)
      (values_dealt (plan_batch (plan_with blocks policy prices)) (most_rounds_with blocks prices) inputs deals).opened
      ≡ Some (run_finish prices masks z finish)
  pub rounds : rounds_dealt (plan_batch (plan_with blocks policy prices)) (most_rounds_with blocks prices) inputs deals
      ≡ run_rounds_with blocks policy prices masks z

-- the run on these inputs and mask words ends with this finish, unless it is spent, and has the rounds of a search that
-- ends at z
pub record RunEnds (a : Auction) (inputs : List ℕ) (words : Trio (List ℕ)) (z : ℕ) (finish : Finish) : Type 0 where
  pub ends : finish_run a inputs words ≡ Some (run_finish a.prices (mask_at words) z finish)
  pub rounds : rounds_of_run a inputs words ≡ run_rounds a (mask_at words) z

-- the place at which a search over any inputs ends: a comparison answers whether twice the difference there is even
abbrev pub place_over : ℕ → List ℕ → ℕ
place_over prices inputs =
    place_found prices (λ k. is_doubled_even (slice_index inputs k) (slice_index inputs (prices + k)))

abbrev pub place_of_inputs : Auction → List ℕ → ℕ
place_of_inputs a inputs = place_over a.prices inputs

-- the finish that tells an outcome
abbrev pub finish_of : Outcome → Finish
finish_of (OutcomePrice place price volume supply) = Price place volume supply
finish_of No = NoPrice
