-- The book of an auction: its grid and its bidders.
use Rattle.std.specs.Prelude.{◌≤◌, List, length, All}
use Rattle.beet_bids.specs.Grids.{Grid}
use Rattle.beet_bids.specs.Curves.{IsCurve, IsOfGrid}
use Rattle.beet_words.specs.declared.bundle.TheConstants.{MOST_BIDDERS}
use Rattle.beet_bids.specs.declared.book.Bidder.{Bidder}

-- the grid of all curves, and the bidders in their order
pub record Book : Type 0 where
  pub grid : Grid
  pub bidders : List Bidder

-- few bidders, each with a curve of the grid
pub record IsBook (book : Book) : Type 0 where
  pub few : length book.bidders ≤ MOST_BIDDERS
  pub curves : All (λ bidder. IsCurve bidder.curve) book.bidders
  pub of_grid : All (λ bidder. IsOfGrid book.grid bidder.curve) book.bidders
