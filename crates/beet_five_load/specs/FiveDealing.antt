-- The bidders of an auction among five servers, each dealt as it is read.
use Rattle.std.specs.Prelude.{◌≡◌, List, All, length}
use Rattle.beet_words.specs.Words.{IsWord}
use Rattle.beet_bids.specs.Grids.{Grid}
use Rattle.beet_book.specs.Farmers.{BidderWithWords}
use Rattle.beet_book.specs.declared.entries.Entry.{Entry}
use Rattle.beet_five_dealing.specs.FiveTotals.{FiveTotals, HasDealtFive}
use Rattle.beet_load.specs.Wholes.{IsFarmer}
use Rattle.beet_five_load.specs.FiveWants.{counts_of_five}

-- a bidder that can deal its quantities among five servers
pub record DealsAmongFive (grid : Grid) (farmer : BidderWithWords) : Type 0 where
  pub is_farmer : IsFarmer (counts_of_five grid) grid farmer
  pub words : All IsWord farmer.words

-- the points of the bidders of the entries are added up
pub record AreDealt (grid : Grid) (entries : List Entry) (totals : FiveTotals)
    (farmers : List BidderWithWords) : Type 0 where
  pub many : length farmers ≡ length entries
  pub each : All (DealsAmongFive grid) farmers
  pub dealt : HasDealtFive grid farmers totals
