-- The job `seal`: a bid in three envelopes, one for each server.
use Rattle.std.specs.Prelude.{ℕ, List, [], ◌∷◌, ◌++◌, codes, decimal, None}
use Rattle.beet_field.specs.declared.point.Point.{Point}
use Rattle.beet_field.specs.declared.point.Point.TheVariants.{One, Two, Three}
use Rattle.beet_store.specs.Files.{File}
use Rattle.beet_bids.specs.Grids.{Grid}
use Rattle.beet_bids.specs.Curves.{Curve}
use Rattle.beet_bids.specs.AuctionFiles.{auction_of}
use Rattle.beet_bids.specs.BidFiles.{bid_of}
use Rattle.beet_book.specs.declared.entries.BidderSource.{BidderSource}
use Rattle.beet_farmer.specs.Sealing.{envelope_for}
use Rattle.beet_errand.specs.Errands.{Answer, Errand, Ends, Step, file_for, gives, reads, ◌>>=◌}
use Rattle.beet_errand.specs.Texts.{line_of}
use Rattle.beet_errand.specs.declared.answer.Status.TheVariants.{Done}
use Rattle.beet_load.specs.Wanted.{wanted_of}
use Rattle.beet_load.specs.Farmers.{bidder_errand}
use Rattle.beet_bids.specs.declared.auction_file.TheConstants.{AUCTION_LIMIT}
use Rattle.beet_bids.specs.declared.bid_file.TheConstants.{BID_LIMIT}

-- the line that tells the number of prices
abbrev pub sealed_text : ℕ → List ℕ
sealed_text prices = line_of (codes "sealed " ++ decimal prices)

-- the file for a server
abbrev pub sealed_file : Grid → List ℕ → Curve → List ℕ → Point → File
sealed_file grid out curve words s = (file_for out s, envelope_for grid curve words s)

-- the three files, in the order of the servers
abbrev pub sealed_files : Grid → List ℕ → Curve → List ℕ → List File
sealed_files grid out curve words =
    sealed_file grid out curve words One ∷ sealed_file grid out curve words Two
    ∷ sealed_file grid out curve words Three ∷ []

-- the answer for a curve and these words
abbrev pub sealed_answer : Grid → List ℕ → Curve → List ℕ → Answer
sealed_answer grid out curve words = record {
  status = Done;
  files = sealed_files grid out curve words;
  text = sealed_text grid.prices;
}

-- the words of the farmer, who is the bidder 1, of which there have to be enough
abbrev pub own_words_errand : Grid → BidderSource → Step (List ℕ)
own_words_errand grid source = bidder_errand (wanted_of None grid) None 1 source

-- the whole job
unfoldable pub seal_job : List ℕ → List ℕ → BidderSource → List ℕ → Step Answer
seal_job auction bid source out = do
  grid ← reads auction AUCTION_LIMIT auction_of
  curve ← reads bid BID_LIMIT (bid_of grid)
  words ← own_words_errand grid source
  gives (sealed_answer grid out curve words)

-- what it does outside
abbrev pub seal_errand : List ℕ → List ℕ → BidderSource → List ℕ → Errand
seal_errand auction bid source out = seal_job auction bid source out Ends
