-- The setting of an auction: what the files of the auction, of its servers and of its book say.
use Rattle.std.specs.Prelude.{ℕ, List}
use Rattle.beet_bids.specs.Grids.{Grid}
use Rattle.beet_bids.specs.AuctionFiles.{auction_of}
use Rattle.beet_book.specs.BookFiles.{book_of}
use Rattle.beet_book.specs.ServerFiles.{servers_of}
use Rattle.beet_book.specs.declared.entries.Entry.{Entry}
use Rattle.beet_book.specs.declared.sources.Servers.{Servers}
use Rattle.beet_errand.specs.Errands.{Step, gives, reads, ◌>>=◌}
use Rattle.beet_bids.specs.declared.auction_file.TheConstants.{AUCTION_LIMIT}
use Rattle.beet_book.specs.declared.server_file.TheConstants.{SERVERS_LIMIT}
use Rattle.beet_book.specs.declared.book_file.TheConstants.{BOOK_LIMIT}

-- the grid, where the words of the servers come from, and the entries of the book
pub record Setting : Type 0 where
  pub grid : Grid
  pub sources : Servers
  pub entries : List Entry

-- the grid of an auction, and then where the words of its servers come from
abbrev pub auction_and_servers : List ℕ → List ℕ → Step (Grid × Servers)
auction_and_servers auction servers = do
  grid ← reads auction AUCTION_LIMIT auction_of
  sources ← reads servers SERVERS_LIMIT servers_of
  gives (grid, sources)

-- the three files, one after another
unfoldable pub setting_errand : List ℕ → List ℕ → List ℕ → Step Setting
setting_errand auction servers book = do
  grid ← reads auction AUCTION_LIMIT auction_of
  sources ← reads servers SERVERS_LIMIT servers_of
  entries ← reads book BOOK_LIMIT book_of
  gives (record { grid = grid; sources = sources; entries = entries })
