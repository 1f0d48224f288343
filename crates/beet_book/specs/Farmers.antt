-- Bidders with the words that they deal their quantities with, and the points that come of them.
use Rattle.std.specs.Prelude.{ℕ, ◌%◌, List, [], ◌∷◌, map, slice_index, sum_by}
use Rattle.beet_field.specs.Field.{p}
use Rattle.beet_field.specs.declared.point.Point.{Point}
use Rattle.beet_field.specs.declared.trio.Trio.{Trio}
use Rattle.beet_shamir.specs.Line.{point_of}
use Rattle.beet_words.specs.Words.{accepted}
use Rattle.beet_bids.specs.Books.{Book}
use Rattle.beet_bids.specs.Curves.{quantity}
use Rattle.beet_bids.specs.Grids.{Grid}
use Rattle.beet_bids.specs.declared.book.Bidder.{Bidder}
use Rattle.beet_book.specs.Totals.{inputs_by, sums_by}

-- a bidder and the words that it deals its quantities with
pub record BidderWithWords : Type 0 where
  pub bidder : Bidder
  pub words : List ℕ

-- bidders with their words, in order
abbrev pub farmers_of : List Bidder → List (List ℕ) → List BidderWithWords
farmers_of [] words = []
farmers_of (bidder ∷ bidders) [] = []
farmers_of (bidder ∷ bidders) (list ∷ words) = record { bidder = bidder; words = list } ∷ farmers_of bidders words

abbrev pub book_with : Grid → List BidderWithWords → Book
book_with grid farmers = record { grid = grid; bidders = map (λ farmer. farmer.bidder) farmers }

-- the slope for the n-th quantity of a bidder: the n-th number drawn from its words
abbrev pub slope_for : BidderWithWords → ℕ → ℕ
slope_for farmer n = slice_index (accepted farmer.words) n

-- the point at i of the n-th quantity of a bidder
abbrev pub point_for : BidderWithWords → Point → ℕ → ℕ
point_for farmer i n = point_of (quantity farmer.bidder.curve n) (slope_for farmer n) i

-- the points at i of the n-th quantities of all bidders, added up
abbrev pub summed_point : List BidderWithWords → Point → ℕ → ℕ
summed_point farmers i n = sum_by (λ farmer. point_for farmer i n) farmers % p

-- the sums at each server, over so many prices: buy first
abbrev pub summed_points : ℕ → List BidderWithWords → Trio (List ℕ)
summed_points prices farmers = sums_by (summed_point farmers) prices

-- the inputs at each server: supply at each place, and then demand at each place
abbrev pub book_inputs : ℕ → List BidderWithWords → Trio (List ℕ)
book_inputs prices farmers = inputs_by (summed_point farmers) prices
