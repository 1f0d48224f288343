-- What is read for two sessions: the lots of the first with their words, and the books of the second without words.
use Rattle.std.specs.Prelude.{ℕ, ◌*◌, List, [], length, map, Some, sum_by}
use Rattle.beet_words.specs.Bundles.{Words}
use Rattle.beet_bids.specs.AuctionFiles.{auction_of}
use Rattle.beet_bids.specs.Books.{Book}
use Rattle.beet_bids.specs.declared.auction_file.TheConstants.{AUCTION_LIMIT}
use Rattle.beet_book.specs.BookFiles.{book_of}
use Rattle.beet_book.specs.Farmers.{book_with}
use Rattle.beet_book.specs.declared.book_file.TheConstants.{BOOK_LIMIT}
use Rattle.beet_book.specs.declared.server_file.TheConstants.{SERVERS_LIMIT}
use Rattle.beet_book.specs.declared.sources.Servers.{Servers}
use Rattle.beet_errand.specs.Errands.{Step, gives, reads, ◌>>=◌}
use Rattle.beet_load.specs.Loading.{AuctionWithBidders}
use Rattle.beet_load.specs.Wholes.{all_words, curves_errand, limited_rest}
use Rattle.beet_lot_files.specs.SeedFiles.{seed_servers_of}
use Rattle.beet_lot_files.specs.SessionFiles.{session_of}
use Rattle.beet_lot_files.specs.declared.session_file.LotRow.{LotRow}
use Rattle.beet_lot_files.specs.declared.session_file.TheConstants.{SESSION_LIMIT}
use Rattle.beet_lot_load.specs.Lots.{each_row}

-- a lot that is read whole, and what it takes of the limit on a session: each entry of its book counts once for each
-- price
pub record LimitedLot : Type 0 where
  pub lot : AuctionWithBidders
  pub product : ℕ

-- what lots that are read whole take of it together
abbrev pub taken_by : List LimitedLot → ℕ
taken_by lots = sum_by (λ limited. limited.product) lots

-- a lot, counted from 0, before which so much of the limit is taken: its book is refused right after it is read if it
-- passes the limit
abbrev pub limited_lot : Servers → ℕ → ℕ → LotRow → Step LimitedLot
limited_lot sources lot before row = do
  grid ← reads row.auction AUCTION_LIMIT auction_of
  entries ← reads row.book BOOK_LIMIT book_of
  loaded ← limited_rest (Some lot) before row.book (record { grid = grid; sources = sources; entries = entries })
  gives (record { lot = loaded; product = length entries * grid.prices })

-- a lot behind those that are read
abbrev pub next_limited : Servers → List LimitedLot → LotRow → Step LimitedLot
next_limited sources read row = limited_lot sources (length read) (taken_by read) row

-- what books take of the limit: each bidder counts once for each price
abbrev pub taken_by_books : List Book → ℕ
taken_by_books books = sum_by (λ book. length book.bidders * book.grid.prices) books

-- the book of a lot over its own grid, without words, before which so much of the limit is taken
abbrev pub alone_errand : ℕ → LotRow → Step Book
alone_errand before row = do
  grid ← reads row.auction AUCTION_LIMIT auction_of
  bidders ← curves_errand before row.book grid
  gives (record { grid = grid; bidders = bidders })

-- a book behind those that are read
abbrev pub next_alone : List Book → LotRow → Step Book
next_alone read row = alone_errand (taken_by_books read) row

-- the books of a session, lot after lot
abbrev pub books_errand : List ℕ → Step (List Book)
books_errand session = do
  rows ← reads session SESSION_LIMIT session_of
  each_row next_alone [] rows

-- the rows and the lots of the first session, and the books of the second
pub record Both : Type 0 where
  pub rows : List LotRow
  pub lots : List AuctionWithBidders
  pub seconds : List Book

abbrev pub book_of_lot : AuctionWithBidders → Book
book_of_lot lot = book_with lot.grid lot.farmers

-- the words of its servers and of its bidders
abbrev pub words_of_lot : AuctionWithBidders → Words
words_of_lot lot = all_words lot.servers (map (λ farmer. farmer.words) lot.farmers)

-- the books of the first session
abbrev pub first_books : Both → List Book
first_books both = map book_of_lot both.lots

abbrev pub first_words : Both → List Words
first_words both = map words_of_lot both.lots

-- the first session, the seeds of the servers, and lot after lot; then the second session, and its books, for which
-- the limit begins anew
unfoldable pub both_errand : List ℕ → List ℕ → List ℕ → Step Both
both_errand session1 session2 servers = do
  rows ← reads session1 SESSION_LIMIT session_of
  sources ← reads servers SERVERS_LIMIT seed_servers_of
  limited ← each_row (next_limited sources) [] rows
  seconds ← books_errand session2
  gives (record { rows = rows; lots = map (λ one. one.lot) limited; seconds = seconds })
