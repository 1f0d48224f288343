-- The quantities that a bidder buys and sells at each place.
use Rattle.std.specs.Prelude.{◌≡◌, ℕ, ◌≤◌, List, ◌++◌, length, slice_index, All, AllPairs}
use Rattle.beet_bids.specs.declared.curve.TheConstants.{LARGEST_QUANTITY}
use Rattle.beet_bids.specs.Grids.{Grid}

-- the quantities at each place, from the lowest price on
pub record Curve : Type 0 where
  pub buy : List ℕ
  pub sell : List ℕ

-- two lists of one length, with each quantity within its limit; buy never rises, and sell never falls
pub record IsCurve (curve : Curve) : Type 0 where
  pub one_length : length curve.sell ≡ length curve.buy
  pub buy_limit : All (λ quantity. quantity ≤ LARGEST_QUANTITY) curve.buy
  pub sell_limit : All (λ quantity. quantity ≤ LARGEST_QUANTITY) curve.sell
  pub buy_never_rises : AllPairs (λ before after. after ≤ before) curve.buy
  pub sell_never_falls : AllPairs (λ before after. before ≤ after) curve.sell

-- both lists have a quantity for each price of the grid
pub record IsOfGrid (grid : Grid) (curve : Curve) : Type 0 where
  pub buy_length : length curve.buy ≡ grid.prices
  pub sell_length : length curve.sell ≡ grid.prices

-- the n-th quantity: buy at each place, and then sell
abbrev pub quantity : Curve → ℕ → ℕ
quantity curve n = slice_index (curve.buy ++ curve.sell) n
