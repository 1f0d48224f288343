-- What is read for two worlds of five servers: an auction with its words, and a second book without words.
use Rattle.std.specs.Prelude.{ℕ, List}
use Rattle.beet_bids.specs.Books.{Book}
use Rattle.beet_bids.specs.declared.book.Bidder.{Bidder}
use Rattle.beet_errand.specs.Errands.{Step, gives, ◌>>=◌}
use Rattle.beet_five_load.specs.FiveLoading.{FiveRead, five_limited_errand}
use Rattle.beet_load.specs.Wholes.{curves_errand}

-- the auction of the first book, and the bidders of the second
pub record BothOfFive : Type 0 where
  pub first : FiveRead
  pub second : List Bidder

-- both, by the second book
abbrev pub both_of : FiveRead → Book → BothOfFive
both_of first second = record { first = first; second = second.bidders }

-- the second book, over the same grid
abbrev pub second_book : BothOfFive → Book
second_book both = record { grid = both.first.book.grid; bidders = both.second }

-- the auction, its servers and the first book come first, with the words of all, and then the second book
unfoldable pub both_errand : List ℕ → List ℕ → List ℕ → List ℕ → Step BothOfFive
both_errand auction servers book1 book2 = do
  first ← five_limited_errand auction servers book1
  second ← curves_errand 0 book2 first.book.grid
  gives (record { first = first; second = second })
