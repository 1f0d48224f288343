-- The points of all bidders, added up.
use Rattle.std.specs.Prelude.{◌≡◌, List, map, length, All}
use Rattle.beet_bids.specs.Grids.{Grid}
use Rattle.beet_bids.specs.Curves.{Curve, IsCurve, IsOfGrid}
use Rattle.beet_book.specs.declared.entries.Entry.{Entry}
use Rattle.beet_book.specs.Dealing.{AreShares}
use Rattle.beet_book.specs.Totals.{Totals, summed_quantities}
use Rattle.beet_book.specs.Farmers.{BidderWithWords}

abbrev pub curves_of : List BidderWithWords → List Curve
curves_of farmers = map (λ farmer. farmer.bidder.curve) farmers

-- the points of the quantities of these bidders are added up
pub record AddsFarmers (grid : Grid) (totals : Totals) (farmers : List BidderWithWords) : Type 0 where
  pub shares : AreShares (summed_quantities grid.prices (curves_of farmers)) totals.points
  pub prices : totals.prices ≡ grid.prices
  pub curves : All IsCurve (curves_of farmers)
  pub of_grid : All (IsOfGrid grid) (curves_of farmers)

-- the points of all bidders are added up
pub record AreCollected (grid : Grid) (entries : List Entry) (totals : Totals)
    (farmers : List BidderWithWords) : Type 0 where
  pub many : length farmers ≡ length entries
  pub adds : AddsFarmers grid totals farmers
