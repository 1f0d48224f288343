-- The lines of a bid.
use Rattle.std.specs.Prelude.{◌≡◌, ℕ, ◌+◌, ◌<◌, ◌≤◌, min, List, Option, None, Some, is_some, unwrap_or, length}
use Rattle.std.specs.Prelude.{slice_get, slice_index_or, All, AllPairs, IsTrue, ◌-◌}
use Rattle.beet_bids.specs.Grids.{Grid, price_of, place_of}
use Rattle.beet_bids.specs.declared.curve.TheConstants.{LARGEST_QUANTITY}
use Rattle.beet_bids.specs.declared.lines.Line.{Line}

-- the line with each number cut to one above the largest that it may be
abbrev pub cut_line : Grid → Line → Line
cut_line grid line = record {
  price = min line.price (price_of grid (grid.prices - 1) + 1);
  buy = min line.buy (LARGEST_QUANTITY + 1);
  sell = min line.sell (LARGEST_QUANTITY + 1);
}

-- a later line is at a higher price, buys no more and sells no less
pub record Precedes (before after : Line) : Type 0 where
  pub price : before.price < after.price
  pub buy : after.buy ≤ before.buy
  pub sell : before.sell ≤ after.sell

-- the lines of a bid: the first at the base, each at a price of the grid and within the limits, and in order
pub record AreLines (grid : Grid) (lines : List Line) : Type 0 where
  pub some : 0 < length lines
  pub base : (d : Line) → (slice_index_or lines 0 d).price ≡ grid.base
  pub on_grid : All (λ line. IsTrue (is_some (place_of grid line.price))) lines
  pub buy_limit : All (λ line. line.buy ≤ LARGEST_QUANTITY) lines
  pub sell_limit : All (λ line. line.sell ≤ LARGEST_QUANTITY) lines
  pub in_order : AllPairs Precedes lines

-- the place where a line begins, or the number of places if there is no line
abbrev pub begin_of : Grid → Option Line → ℕ
begin_of grid None = grid.prices
begin_of grid (Some line) = unwrap_or (place_of grid line.price) 0

-- the place where the line of this number, counted from 0, begins, or the number of places after the last line
abbrev pub begin_at : Grid → List Line → ℕ → ℕ
begin_at grid lines i = begin_of grid (slice_get lines i)
