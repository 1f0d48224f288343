-- The grid of prices of an auction.
use Rattle.std.specs.Prelude.{ℕ, ◌+◌, ◌*◌, ◌≤◌, ◌==◌, List, Option, length, find}
use Rattle.std.specs.List.{range_with_len}
use Rattle.std.specs.Int.Digits.{digits_of}
use Rattle.beet_gates.specs.declared.Gates.{Gates}
use Rattle.beet_bids.specs.declared.outcomes.Policy.{Policy}
use Rattle.beet_bids.specs.declared.grid.TheConstants.{LARGEST_BASE, LARGEST_TICK, MOST_PRICES}

-- a lowest price, the step from one price to the next, how many prices there are, the kind of gates, and what is opened
-- beside the price
pub record Grid : Type 0 where
  pub base : ℕ
  pub tick : ℕ
  pub prices : ℕ
  pub gates : Gates
  pub policy : Policy

-- the limits of a grid
pub record IsGrid (grid : Grid) : Type 0 where
  pub base_limit : grid.base ≤ LARGEST_BASE
  pub tick_some : 1 ≤ grid.tick
  pub tick_limit : grid.tick ≤ LARGEST_TICK
  pub prices_some : 1 ≤ grid.prices
  pub prices_limit : grid.prices ≤ MOST_PRICES

-- the places of a grid, in order
abbrev pub places_of : Grid → List ℕ
places_of grid = range_with_len 0 grid.prices

-- the price at a place
abbrev pub price_of : Grid → ℕ → ℕ
price_of grid place = grid.base + place * grid.tick

-- the place of a price, if the grid has it
abbrev pub place_of : Grid → ℕ → Option ℕ
place_of grid price = find (λ place. price_of grid place == price) (places_of grid)

-- how many comparisons a search among so many places makes at most: the number of its binary digits
unfoldable pub comparisons_of : ℕ → ℕ
comparisons_of prices = length (digits_of 2 prices)
