-- What is read for two worlds: an auction with its words, and a second book without words.
use Rattle.std.specs.Prelude.{ℕ, List, map}
use Rattle.beet_words.specs.Bundles.{Words}
use Rattle.beet_bids.specs.Books.{Book}
use Rattle.beet_bids.specs.declared.book.Bidder.{Bidder}
use Rattle.beet_book.specs.Farmers.{book_with}
use Rattle.beet_errand.specs.Errands.{Step, gives, ◌>>=◌}
use Rattle.beet_load.specs.Loading.{AuctionWithBidders}
use Rattle.beet_load.specs.Servers.{masks_of, coefficients_of}
use Rattle.beet_load.specs.Wholes.{limited_errand, curves_errand}

-- the auction of the first book, and the bidders of the second
pub record Both : Type 0 where
  pub first : AuctionWithBidders
  pub second : List Bidder

abbrev pub first_book : Both → Book
first_book both = book_with both.first.grid both.first.farmers

-- the second book, over the same grid
abbrev pub second_book : Both → Book
second_book both = record { grid = both.first.grid; bidders = both.second }

-- the words of the servers and of the bidders of the first book
abbrev pub words_read : Both → Words
words_read both = record {
  masks = masks_of both.first.servers;
  coefficients = coefficients_of both.first.servers;
  bidders = map (λ farmer. farmer.words) both.first.farmers;
}

-- the auction, its servers and the first book come first, and then the second book
unfoldable pub both_errand : List ℕ → List ℕ → List ℕ → List ℕ → Step Both
both_errand auction servers book1 book2 = do
  first ← limited_errand auction servers book1
  second ← curves_errand 0 book2 first.grid
  gives (record { first = first; second = second })
