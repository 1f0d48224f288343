-- How many words are wanted.
use Rattle.std.specs.Prelude.{ℕ, ◌*◌}
use Rattle.beet_bids.specs.Grids.{Grid}
use Rattle.beet_plan.specs.Auction.{auction_over, most_coefficients, most_masks}

-- of each server mask words, and words that are numbers; of each bidder words that are numbers
pub record Counts : Type 0 where
  pub masks : ℕ
  pub coefficients : ℕ
  pub words : ℕ

-- a server deals as many masks as the auction over the grid may ask for
abbrev pub masks_wanted : Grid → ℕ
masks_wanted grid = most_masks (auction_over grid)

-- and it draws as many numbers
abbrev pub coefficients_wanted : Grid → ℕ
coefficients_wanted grid = most_coefficients (auction_over grid)

-- a bidder draws a number for each quantity, two at each price
abbrev pub words_wanted : Grid → ℕ
words_wanted grid = 2 * grid.prices

-- what the auction over the grid wants
abbrev pub counts_of : Grid → Counts
counts_of grid = record {
  masks = masks_wanted grid;
  coefficients = coefficients_wanted grid;
  words = words_wanted grid;
}
