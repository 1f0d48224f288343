-- What the bidders of a book deal: the summed points, and the bidders as each server sees them.
use Rattle.std.proofs.Common.{arith}
use Rattle.std.specs.List.{slice_range}
use Rattle.std.specs.Prelude.{◌≡◌, ◌≤◌, ◌+◌, List, [], map, Option, Some, None, ℕ, length, All, Bool, false, true}
use Rattle.beet_field.specs.Trio.{member}
use Rattle.beet_field.specs.declared.point.Point.{Point}
use Rattle.beet_field.specs.declared.trio.Trio.{Trio}
use Rattle.beet_bids.specs.Curves.{IsOfGrid}
use Rattle.beet_bids.specs.Grids.{Grid}
use Rattle.beet_bids.specs.declared.book.Bidder.{Bidder}
use Rattle.beet_book.specs.Totals.{Totals}
use Rattle.beet_book.specs.Farmers.{BidderWithWords, farmers_of, summed_points}
use Rattle.beet_delivery.specs.Events.{same}
use Rattle.beet_load.specs.Counts.{counts_of}
use Rattle.beet_load.specs.Wholes.{CanDeal}
use Rattle.beet_view.specs.BookViews.{seen_at}
use Rattle.beet_view.specs.declared.view.Seen.{Seen}

-- each bidder has a curve of the grid, and a list of words that are enough
pub record CanDealAll (grid : Grid) (bidders : List Bidder) (words : List (List ℕ)) : Type 0 where
  pub paired : length words ≡ length bidders
  pub of_grid : All (λ bidder. IsOfGrid grid bidder.curve) bidders
  pub enough : All (CanDeal (counts_of grid)) words

-- so many of these bidders from one on
pub record CanDealPart (grid : Grid) (bidders : List Bidder) (words : List (List ℕ)) (from count : ℕ) : Type 0 where
  pub within : from + count ≤ length bidders
  pub all : CanDealAll grid bidders words

-- what can be dealt, can be dealt in two parts
pub deal-splits : (grid : Grid) (bidders : List Bidder) (words : List (List ℕ)) (from few rest : ℕ) →
    CanDealPart grid bidders words from (few + rest) →
    CanDealPart grid bidders words from few × CanDealPart grid bidders words (from + few) rest
deal-splits grid bidders words from few rest can = (
  record { within = omega (arith, can.within); all = can.all },
  record { within = omega (arith, can.within); all = can.all },
)

-- so many bidders from one on, with their words
abbrev pub part_of : List Bidder → List (List ℕ) → ℕ → ℕ → List BidderWithWords
part_of bidders words from count =
    farmers_of (slice_range bidders from (from + count)) (slice_range words from (from + count))

-- whether bidders are kept for a server: for one that is named, or for each
abbrev pub shows : Option Point → Point → Bool
shows None s = true
shows (Some at) s = same at s

-- the points of these bidders are added up, and each server for which they are kept sees the bidders, and no other
-- server any
pub record HasDealt (grid : Grid) (whom : Option Point) (farmers : List BidderWithWords) (totals : Totals)
    (seen : Trio (List Seen)) : Type 0 where
  pub prices : totals.prices ≡ grid.prices
  pub points : totals.points ≡ summed_points grid.prices farmers
  pub bidders : (s : Point) → shows whom s ≡ true → member seen s ≡ map (seen_at grid s) farmers
  pub others : (s : Point) → shows whom s ≡ false → member seen s ≡ []
