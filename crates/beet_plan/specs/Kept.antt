-- How many words of each tape are kept for an auction: as many as are wanted, and if words may be passed over, a few
-- more.
use Rattle.std.specs.Prelude.{ℕ, ◌+◌, ◌*◌}
use Rattle.beet_bids.specs.Grids.{Grid}
use Rattle.beet_plan.specs.Auction.{auction_over, most_coefficients, most_masks}
use Rattle.beet_masking.specs.declared.TheConstants.{SPARE_WORDS}

-- of a bidder, if there are so many prices
abbrev pub words_kept : ℕ → ℕ
words_kept prices = 2 * prices + SPARE_WORDS

-- of the mask words of a server
abbrev pub masks_kept : Grid → ℕ
masks_kept grid = most_masks (auction_over grid)

-- of its coefficient words
abbrev pub coefficients_kept : Grid → ℕ
coefficients_kept grid = most_coefficients (auction_over grid) + SPARE_WORDS
