-- What is read for an audit: an auction, and then three transcripts.
use Rattle.std.specs.Prelude.{ℕ, List}
use Rattle.beet_forms.specs.declared.faults.TheConstants.{LONGEST_FILE}
use Rattle.beet_bids.specs.AuctionFiles.{auction_of}
use Rattle.beet_bids.specs.declared.auction_file.TheConstants.{AUCTION_LIMIT}
use Rattle.beet_view.specs.Transcripts.{view_in}
use Rattle.beet_errand.specs.Errands.{Step, gives, reads, ◌>>=◌}
use Rattle.beet_job_audit.specs.declared.reading.ReadViews.{ReadViews}

-- the auction comes first, and then the transcripts in the order in which they are named
unfoldable pub read_errand : List ℕ → List ℕ → List ℕ → List ℕ → Step ReadViews
read_errand auction one two three = do
  grid ← reads auction AUCTION_LIMIT auction_of
  first ← reads one LONGEST_FILE view_in
  second ← reads two LONGEST_FILE view_in
  third ← reads three LONGEST_FILE view_in
  gives (record { grid = grid; views = record { one = first; two = second; three = third } })
