-- The winner and the price of a sale.
use Rattle.std.specs.Prelude.{◌≡◌, ◌≢◌, ◌<◌, ◌≤◌, ◌+◌, ℕ, List, length, slice_index}
use Rattle.beet_sale_plan.specs.declared.TheConstants.{LARGEST_BID}

abbrev pub IsBid : ℕ → Type 0
IsBid bid = bid ≤ LARGEST_BID

-- the bid at a place is at least every other
abbrev pub IsGreatest : List ℕ → ℕ → Type 0
IsGreatest bids place = (k : ℕ) → k < length bids → slice_index bids k ≤ slice_index bids place

-- the winner stands at the least place whose bid is at least every other; bidders are counted from 1
pub record IsWinner (bids : List ℕ) (winner place : ℕ) : Type 0 where
  pub counted : winner ≡ place + 1
  pub there : place < length bids
  pub greatest : IsGreatest bids place
  pub least : (k : ℕ) → k < length bids → IsGreatest bids k → place ≤ k

-- the price is the greatest bid of the others than the one at a place: one of them, and at least each of them
pub record IsPrice (bids : List ℕ) (place price : ℕ) : Type 0 where
  pub other : ℕ
  pub there : other < length bids
  pub differs : other ≢ place
  pub is_bid : price ≡ slice_index bids other
  pub covers : (k : ℕ) → k < length bids → k ≢ place → slice_index bids k ≤ price

-- these are the winner and the price of a sale with these bids
pub record IsSale (bids : List ℕ) (winner price : ℕ) : Type 0 where
  pub place : ℕ
  pub wins : IsWinner bids winner place
  pub pays : IsPrice bids place price
