-- The job `open`: the outcome of the bids in envelopes, and the rounds in which three servers find it.
use Rattle.std.specs.Prelude.{ℕ, List, [], None}
use Rattle.beet_bids.specs.Grids.{Grid}
use Rattle.beet_bids.specs.AuctionFiles.{auction_of}
use Rattle.beet_book.specs.ServerFiles.{servers_of}
use Rattle.beet_book.specs.declared.sources.Servers.{Servers}
use Rattle.beet_farmer.specs.Lists.{list_of}
use Rattle.beet_farmer.specs.declared.list_file.ListEntry.{ListEntry}
use Rattle.beet_errand.specs.Errands.{Answer, Errand, Ends, Step, gives, reads, ◌>>=◌}
use Rattle.beet_load.specs.Wanted.{wanted_of}
use Rattle.beet_load.specs.Servers.{all_words_errand}
use Rattle.beet_gathering.specs.Gather.{bidders_errand}
use Rattle.beet_gathering.specs.Opened.{opened_answer}
use Rattle.beet_bids.specs.declared.auction_file.TheConstants.{AUCTION_LIMIT}
use Rattle.beet_book.specs.declared.server_file.TheConstants.{SERVERS_LIMIT}
use Rattle.beet_farmer.specs.declared.list_file.TheConstants.{LIST_LIMIT}

-- the bids in the envelopes of these entries are opened: the words of the servers come first, and a bundle may have any
-- number of bidders
unfoldable pub entries_job : Grid → Servers → List ListEntry → Step Answer
entries_job grid sources entries = do
  words ← all_words_errand (wanted_of None grid) None sources
  bidders ← bidders_errand grid [] entries
  gives (opened_answer grid words.servers bidders)

-- the whole job
unfoldable pub open_job : List ℕ → List ℕ → List ℕ → Step Answer
open_job auction servers list = do
  grid ← reads auction AUCTION_LIMIT auction_of
  sources ← reads servers SERVERS_LIMIT servers_of
  entries ← reads list LIST_LIMIT list_of
  entries_job grid sources entries

-- what it does outside
abbrev pub open_errand : List ℕ → List ℕ → List ℕ → Errand
open_errand auction servers list = open_job auction servers list Ends
