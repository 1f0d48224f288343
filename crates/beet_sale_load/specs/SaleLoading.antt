-- Reading a sale and the words with which it is run.
use Rattle.std.specs.Prelude.{◌≡◌, ℕ, ◌+◌, List, [], ◌∷◌, ◌++◌, length, Option, Some}
use Rattle.beet_words.specs.Bundles.{Words}
use Rattle.beet_book.specs.ServerFiles.{servers_of}
use Rattle.beet_book.specs.declared.server_file.TheConstants.{SERVERS_LIMIT}
use Rattle.beet_book.specs.declared.sources.Servers.{Servers}
use Rattle.beet_sale_file.specs.SaleFiles.{sale_of}
use Rattle.beet_sale_file.specs.Sales.{SaleRecord, bids_of}
use Rattle.beet_sale_file.specs.declared.rows.SaleRow.{SaleRow}
use Rattle.beet_sale_file.specs.declared.sale_file.TheConstants.{SALE_LIMIT}
use Rattle.beet_sale_map.specs.Enough.{AreEnough, cut_words}
use Rattle.beet_errand.specs.Errands.{Step, gives, reads, ◌>>=◌}
use Rattle.beet_load.specs.Farmers.{bidder_errand, list_at}
use Rattle.beet_load.specs.Servers.{all_words_errand}
use Rattle.beet_load.specs.Wholes.{all_words}
use Rattle.beet_load.specs.declared.wanted.Wanted.{Wanted}
use Rattle.beet_sale_load.specs.SaleWants.{wanted_of}

-- a sale that is read, with the words that are read for it
pub record SaleRead : Type 0 where
  pub sale : SaleRecord
  pub words : Words

-- the words of the bidders of these rows in order, after those that are read, with the lists of words that are given;
-- the bidders are numbered from 1
abbrev pub lists_errand : Wanted → Option (List (List ℕ)) → List (List ℕ) → List SaleRow → Step (List (List ℕ))
lists_errand wanted given read [] = gives read
lists_errand wanted given read (row ∷ rows) = do
  words ← bidder_errand wanted (list_at given (length read)) (length read + 1) row.source
  lists_errand wanted given (read ++ words ∷ []) rows

-- the words of a sale: those of its servers, of these sources, and then those of its bidders
unfoldable pub words_errand : List SaleRow → Servers → Step Words
words_errand rows sources = do
  words ← all_words_errand (wanted_of rows) (Some (length rows)) sources
  lists ← lists_errand (wanted_of rows) words.bidders [] rows
  gives (all_words words.servers lists)

-- the files of a sale and of its servers, and then the words of both
unfoldable pub sale_errand : List ℕ → List ℕ → Step SaleRead
sale_errand sale servers = do
  sale ← reads sale SALE_LIMIT sale_of
  sources ← reads servers SERVERS_LIMIT servers_of
  words ← words_errand sale.rows sources
  gives (record { sale = sale; words = words })

-- the words that are read are enough, and no more than are kept
pub record CanStart (read : SaleRead) : Type 0 where
  pub enough : AreEnough (bids_of read.sale.rows) read.words
  pub cut : cut_words (bids_of read.sale.rows) read.words ≡ read.words
