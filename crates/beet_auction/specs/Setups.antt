-- What the three servers begin with in the auction of a book.
use Rattle.std.specs.Prelude.{ℕ, ◌*◌, List}
use Rattle.beet_field.specs.declared.trio.Trio.{Trio}
use Rattle.beet_words.specs.Bundles.{Words}
use Rattle.beet_bids.specs.Books.{Book}
use Rattle.beet_bids.specs.Grids.{Grid}
use Rattle.beet_plan.specs.Auction.{Auction, auction_batch, auction_over, most_rounds}
use Rattle.beet_book.specs.Farmers.{BidderWithWords, book_inputs, farmers_of}
use Rattle.beet_sharing.specs.Runs.{Setup, numbers_of, rounds_among}

-- an auction has two inputs for each price
abbrev pub inputs_of : Auction → ℕ
inputs_of a = 2 * a.prices

-- the setup of the auction over a grid, with these inputs, mask words and coefficient words
abbrev pub auction_setup : Grid → Trio (List ℕ) → Trio (List ℕ) → Trio (List ℕ) → Setup
auction_setup grid inputs masks coefficients = record {
  next = auction_batch (auction_over grid);
  inputs = inputs;
  masks = masks;
  numbers = numbers_of coefficients;
}

-- the setup of the auction of a book, whose bidders stand with their words
abbrev pub book_setup : Grid → List BidderWithWords → Trio (List ℕ) → Trio (List ℕ) → Setup
book_setup grid farmers masks coefficients = auction_setup grid (book_inputs grid.prices farmers) masks coefficients

-- the same, if book and words stand apart: the setup of the auction of a book with these words of servers and
-- bidders
abbrev pub setup_for : Book → Words → Setup
setup_for book words = book_setup book.grid (farmers_of book.bidders words.bidders) words.masks words.coefficients

-- the rounds of its run, as the run itself has them; from the book and the mask words alone they are told by
-- `book_rounds`
abbrev pub rounds_for : Book → Words → ℕ
rounds_for book words = rounds_among (setup_for book words) (most_rounds (auction_over book.grid))
