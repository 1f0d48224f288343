-- Bidders who are known by their points alone, and bid curves.
use Rattle.std.specs.Prelude.{◌≡◌, ◌<◌, ◌≤◌, ◌*◌, ℕ, List, [], length, slice_index_or, All, None}
use Rattle.beet_field.specs.Trio.{member}
use Rattle.beet_field.specs.declared.point.Point.{Point}
use Rattle.beet_field.specs.declared.trio.Trio.{Trio}
use Rattle.beet_shamir.specs.Line.{AreElements}
use Rattle.beet_bids.specs.Curves.{Curve, IsCurve, IsOfGrid}
use Rattle.beet_words.specs.Words.{IsWord}
use Rattle.beet_words.specs.declared.bundle.TheConstants.{MOST_BIDDERS}
use Rattle.beet_bids.specs.Grids.{Grid, IsGrid}
use Rattle.beet_book.specs.Dealing.{AreShares, HasLengths, quantities}
use Rattle.beet_book.specs.Farmers.{BidderWithWords}
use Rattle.beet_book.specs.Totals.{points_on}
use Rattle.beet_book.specs.declared.book_file.TheConstants.{MOST_PRODUCT}
use Rattle.beet_load.specs.Counts.{counts_of}
use Rattle.beet_load.specs.Servers.{AreCut, HaveEnough, ServerWords}

-- a bidder without points
abbrev pub no_points : Trio (List ℕ)
no_points = record { one = []; two = []; three = [] }

-- these points are those of lines with the quantities of a curve of the grid
pub record AreOfCurve (grid : Grid) (points : Trio (List ℕ)) (curve : Curve) : Type 0 where
  pub is_curve : IsCurve curve
  pub of_grid : IsOfGrid grid curve
  pub shares : AreShares (quantities curve) points

pub record BidCurves (grid : Grid) (bidders : List (Trio (List ℕ))) : Type 0 where
  pub curves : ℕ → Curve
  pub bids : (i : ℕ) → i < length bidders → AreOfCurve grid (slice_index_or bidders i no_points) (curves i)

-- no server knows any of these bidders
abbrev pub AreSealed : List BidderWithWords → Type 0
AreSealed farmers = All (λ farmer. farmer.bidder.known ≡ None) farmers

-- the points of a bidder as its envelopes hold them: two for each price at each server, each a number of the field
pub record AreInEnvelopes (grid : Grid) (points : Trio (List ℕ)) : Type 0 where
  pub lengths : HasLengths points (2 * grid.prices)
  pub elements : (n : ℕ) → n < 2 * grid.prices → AreElements (points_on points n)

-- words and points within their limits: at most 2,000 bidders, who are within the limit of a book if each is
-- counted once for each price, the points of their envelopes, and words of the servers that are enough, and no more
-- than are kept
pub record CanBeWitnessed (grid : Grid) (bidders : List (Trio (List ℕ))) (words : Trio ServerWords) : Type 0 where
  pub is_grid : IsGrid grid
  pub few : length bidders ≤ MOST_BIDDERS
  pub product : length bidders * grid.prices ≤ MOST_PRODUCT
  pub held : All (AreInEnvelopes grid) bidders
  pub enough : HaveEnough (counts_of grid) words
  pub cut : AreCut (counts_of grid) words
  pub masks : (s : Point) → All IsWord (member words s).masks
  pub coefficients : (s : Point) → All IsWord (member words s).coefficients
