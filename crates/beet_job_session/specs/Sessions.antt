-- The job `session`: how the auction of each lot ends.
use Rattle.std.specs.Prelude.{ℕ, List, map}
use Rattle.beet_book.specs.declared.server_file.TheConstants.{SERVERS_LIMIT}
use Rattle.beet_errand.specs.Errands.{Answer, Errand, Ends, Step, gives, reads, text_answer, ◌>>=◌}
use Rattle.beet_load.specs.Loading.{AuctionWithBidders}
use Rattle.beet_run.specs.Outcomes.{cleared}
use Rattle.beet_lot_files.specs.SeedFiles.{seed_servers_of}
use Rattle.beet_lot_files.specs.SessionFiles.{session_of}
use Rattle.beet_lot_files.specs.declared.session_file.LotRow.{LotRow}
use Rattle.beet_lot_files.specs.declared.session_file.TheConstants.{SESSION_LIMIT}
use Rattle.beet_lot_load.specs.Lots.{lots_errand}
use Rattle.beet_lot_load.specs.Telling.{TellsLots, lots_status, lots_text}
use Rattle.beet_lot_load.specs.declared.telling.LotsTold.{LotsTold}

-- the lots that are read are told, each by its auction alone
abbrev pub TellsCleared : List LotRow → LotsTold → List AuctionWithBidders → Type 0
TellsCleared rows told lots = TellsLots rows (map cleared lots) told

-- the answer for the lots of these rows that are read: of each what is told of its auction alone
abbrev pub session_answer : List LotRow → List AuctionWithBidders → Answer
session_answer rows lots = text_answer (lots_status (map cleared lots)) (lots_text rows (map cleared lots))

-- the whole job: the session, the seeds of the servers, and then lot after lot
abbrev pub session_job : List ℕ → List ℕ → Step Answer
session_job session servers = do
  rows ← reads session SESSION_LIMIT session_of
  sources ← reads servers SERVERS_LIMIT seed_servers_of
  lots ← lots_errand sources rows
  gives (session_answer rows lots)

-- what it does outside
abbrev pub session_errand : List ℕ → List ℕ → Errand
session_errand session servers = session_job session servers Ends
