-- What is read of the lots of a session.
use Rattle.std.specs.Prelude.{ℕ, List, [], ◌∷◌, ◌++◌, length, Some}
use Rattle.beet_bids.specs.AuctionFiles.{auction_of}
use Rattle.beet_bids.specs.declared.auction_file.TheConstants.{AUCTION_LIMIT}
use Rattle.beet_book.specs.BookFiles.{book_of}
use Rattle.beet_book.specs.declared.book_file.TheConstants.{BOOK_LIMIT}
use Rattle.beet_book.specs.declared.server_file.TheConstants.{SERVERS_LIMIT}
use Rattle.beet_book.specs.declared.sources.Servers.{Servers}
use Rattle.beet_errand.specs.Errands.{Step, gives, reads, ◌>>=◌}
use Rattle.beet_load.specs.Loading.{AuctionWithBidders, rest_errand}
use Rattle.beet_lot_files.specs.SeedFiles.{seed_servers_of}
use Rattle.beet_lot_files.specs.SessionFiles.{session_of}
use Rattle.beet_lot_files.specs.declared.session_file.LotRow.{LotRow}
use Rattle.beet_lot_files.specs.declared.session_file.TheConstants.{SESSION_LIMIT}

-- the lots of a session, and then the seeds of its servers
abbrev pub setting_errand : List ℕ → List ℕ → Step (List LotRow × Servers)
setting_errand session servers = do
  rows ← reads session SESSION_LIMIT session_of
  sources ← reads servers SERVERS_LIMIT seed_servers_of
  gives (rows, sources)

-- a step for each of these rows in order, by what was read of the rows before
abbrev pub each_row : {A : Type 0} → (List A → LotRow → Step A) → List A → List LotRow → Step (List A)
each_row step read [] = gives read
each_row step read (row ∷ rows) = do
  value ← step read row
  each_row step (read ++ value ∷ []) rows

-- a lot, counted from 0: its auction and its book, and then the words of the servers, from the streams of the lot, and
-- the bidders
abbrev pub lot_errand : Servers → ℕ → LotRow → Step AuctionWithBidders
lot_errand sources lot row = do
  grid ← reads row.auction AUCTION_LIMIT auction_of
  entries ← reads row.book BOOK_LIMIT book_of
  rest_errand (Some lot) (record { grid = grid; sources = sources; entries = entries })

-- a lot behind those that are read
abbrev pub next_lot : Servers → List AuctionWithBidders → LotRow → Step AuctionWithBidders
next_lot sources read row = lot_errand sources (length read) row

-- the lots of these rows, in order
abbrev pub lots_errand : Servers → List LotRow → Step (List AuctionWithBidders)
lots_errand sources rows = each_row (next_lot sources) [] rows
