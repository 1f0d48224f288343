-- The job `witness`: what each server has seen of the auction of the bids in envelopes.
use Rattle.std.specs.Prelude.{◌≡◌, ℕ, List, [], ◌∷◌, length, map, None}
use Rattle.beet_field.specs.Trio.{member}
use Rattle.beet_field.specs.declared.point.Point.{Point}
use Rattle.beet_field.specs.declared.point.Point.TheVariants.{One, Two, Three}
use Rattle.beet_field.specs.declared.trio.Trio.{Trio}
use Rattle.beet_store.specs.Files.{File}
use Rattle.beet_bids.specs.Grids.{Grid}
use Rattle.beet_bids.specs.AuctionFiles.{auction_of}
use Rattle.beet_book.specs.PointSums.{AddsUp}
use Rattle.beet_book.specs.ServerFiles.{servers_of}
use Rattle.beet_book.specs.Totals.{Totals}
use Rattle.beet_book.specs.declared.sources.Servers.{Servers}
use Rattle.beet_farmer.specs.Lists.{list_of}
use Rattle.beet_farmer.specs.declared.list_file.ListEntry.{ListEntry}
use Rattle.beet_errand.specs.Errands.{Answer, Errand, Ends, Step, file_for, gives, reads, ◌>>=◌, ◌>>◌}
use Rattle.beet_load.specs.Limits.{within_product}
use Rattle.beet_load.specs.Servers.{ServerWords, all_words_errand}
use Rattle.beet_load.specs.Wanted.{wanted_of}
use Rattle.beet_view.specs.Transcripts.{view_bytes}
use Rattle.beet_view.specs.declared.view.Seen.{Seen}
use Rattle.beet_transcripts.specs.RunsOn.{seen_sealed, view_of_points}
use Rattle.beet_gathering.specs.Gather.{bidders_errand}
use Rattle.beet_gathering.specs.Opened.{opened_answer}
use Rattle.beet_bids.specs.declared.auction_file.TheConstants.{AUCTION_LIMIT}
use Rattle.beet_book.specs.declared.server_file.TheConstants.{SERVERS_LIMIT}
use Rattle.beet_farmer.specs.declared.list_file.TheConstants.{LIST_LIMIT}

-- the transcript of a server in its file
abbrev pub witnessed_file : List ℕ → Grid → Trio ServerWords → List (Trio (List ℕ)) → Point → File
witnessed_file out grid servers bidders s = (file_for out s, view_bytes (view_of_points grid bidders servers s))

-- the answer for the points of the bidders: the transcripts of servers 1, 2 and 3, and what `open` says of them
abbrev pub witnessed_answer : List ℕ → Grid → Trio ServerWords → List (Trio (List ℕ)) → Answer
witnessed_answer out grid servers bidders =
    let file : Point → File = witnessed_file out grid servers bidders in
    record (opened_answer grid servers bidders) { files = file One ∷ file Two ∷ file Three ∷ [] }

-- the bids in the envelopes of these entries are opened as `open` does it
unfoldable pub kept_job : List ℕ → Grid → Servers → List ListEntry → Step Answer
kept_job out grid sources entries = do
  words ← all_words_errand (wanted_of None grid) None sources
  bidders ← bidders_errand grid [] entries
  gives (witnessed_answer out grid words.servers bidders)

-- the bids of a list, of which the limit is tested right after it is read
unfoldable pub list_job : List ℕ → Grid → Servers → List ℕ → Step Answer
list_job out grid sources list = do
  entries ← reads list LIST_LIMIT list_of
  within_product 0 list grid (length entries)
  kept_job out grid sources entries

-- the whole job
unfoldable pub witness_job : List ℕ → List ℕ → List ℕ → List ℕ → Step Answer
witness_job auction servers list out = do
  grid ← reads auction AUCTION_LIMIT auction_of
  sources ← reads servers SERVERS_LIMIT servers_of
  list_job out grid sources list

-- what it does outside
abbrev pub witness_errand : List ℕ → List ℕ → List ℕ → List ℕ → Errand
witness_errand auction servers list out = witness_job auction servers list out Ends

-- the points of these bidders are added up, and each server sees the bidders
pub record KeepsPoints (grid : Grid) (totals : Totals) (seen : Trio (List Seen)) (bidders : List (Trio (List ℕ))) :
    Type 0 where
  pub sums : AddsUp grid totals bidders
  pub shown : (s : Point) → member seen s ≡ map (seen_sealed s) bidders
