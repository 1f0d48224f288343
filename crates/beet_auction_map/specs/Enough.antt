-- Words that are enough for the auction of a book.
use Rattle.std.specs.Prelude.{◌*◌, length}
use Rattle.beet_words.specs.Bundles.{Words}
use Rattle.beet_bids.specs.Books.{Book}
use Rattle.beet_bids.specs.Grids.{Grid}
use Rattle.beet_plan.specs.Auction.{most_masks, most_coefficients, auction_over}
use Rattle.beet_trades.specs.Enough.{HasEnough, Wants}

-- what an auction over a grid wants: the mask words and numbers that the script may ask for, and a number for each
-- quantity of a bidder
abbrev pub wants_over : Grid → Wants
wants_over grid = record {
  masks = most_masks (auction_over grid);
  coefficients = most_coefficients (auction_over grid);
  quantities = 2 * grid.prices;
}

-- they are there for the servers and for each bidder of a book
abbrev pub AreEnough : Book → Words → Type 0
AreEnough book words = HasEnough (wants_over book.grid) (length book.bidders) words
