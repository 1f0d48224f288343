-- Reading an auction, its servers and its book, and keeping the whole book.
use Rattle.std.specs.Prelude.{◌≡◌, ◌≤◌, ℕ, List, [], ◌∷◌, ◌++◌, length, All, Option, None}
use Rattle.beet_field.specs.declared.trio.Trio.{Trio}
use Rattle.beet_words.specs.Words.{accepted}
use Rattle.beet_words.specs.Bundles.{Words}
use Rattle.beet_bids.specs.Grids.{Grid}
use Rattle.beet_bids.specs.BidFiles.{bid_of}
use Rattle.beet_bids.specs.Books.{Book}
use Rattle.beet_bids.specs.Curves.{IsCurve, IsOfGrid}
use Rattle.beet_bids.specs.declared.book.Bidder.{Bidder}
use Rattle.beet_book.specs.BookFiles.{book_of}
use Rattle.beet_book.specs.declared.entries.Entry.{Entry}
use Rattle.beet_book.specs.Farmers.{BidderWithWords}
use Rattle.beet_errand.specs.Errands.{Step, ◌>>◌, gives, reads, ◌>>=◌}
use Rattle.beet_load.specs.Counts.{Counts, counts_of}
use Rattle.beet_masking.specs.Masks.{with_spare}
use Rattle.beet_load.specs.Limits.{within_product}
use Rattle.beet_load.specs.Loading.{AuctionWithBidders, rest_errand}
use Rattle.beet_load.specs.Servers.{ServerWords, HaveEnough, AreCut, masks_of, coefficients_of}
use Rattle.beet_load.specs.Settings.{Setting, setting_errand}
use Rattle.beet_book.specs.declared.book_file.TheConstants.{BOOK_LIMIT}
use Rattle.beet_bids.specs.declared.bid_file.TheConstants.{BID_LIMIT}

-- what is read after the setting, of which the limit is tested first, with what the lots before have of it
abbrev pub limited_rest : Option ℕ → ℕ → List ℕ → Setting → Step AuctionWithBidders
limited_rest lot before book setting =
    within_product before book setting.grid (length setting.entries) >> rest_errand lot setting

-- an auction, its servers and its book, of which the limit is tested right after it is read
unfoldable pub limited_errand : List ℕ → List ℕ → List ℕ → Step AuctionWithBidders
limited_errand auction servers book = do
  setting ← setting_errand auction servers book
  limited_rest None 0 book setting

-- the bidders of entries in order, after those that are read: of each its bid alone
abbrev pub bids_errand : Grid → List Bidder → List Entry → Step (List Bidder)
bids_errand grid read [] = gives read
bids_errand grid read (entry ∷ entries) = do
  curve ← reads entry.bid BID_LIMIT (bid_of grid)
  bids_errand grid (read ++ record { known = entry.known; curve = curve } ∷ []) entries

-- the bidders of a book that is within the limit, without their words
abbrev pub curves_errand : ℕ → List ℕ → Grid → Step (List Bidder)
curves_errand before book grid = do
  entries ← reads book BOOK_LIMIT book_of
  within_product before book grid (length entries)
  bids_errand grid [] entries

-- the words of the servers, server by server
abbrev pub by_server : Words → Trio ServerWords
by_server words = record {
  one = record { masks = words.masks.one; coefficients = words.coefficients.one };
  two = record { masks = words.masks.two; coefficients = words.coefficients.two };
  three = record { masks = words.masks.three; coefficients = words.coefficients.three };
}

-- the words of the servers and those of the bidders
abbrev pub all_words : Trio ServerWords → List (List ℕ) → Words
all_words servers lists = record { masks = masks_of servers; coefficients = coefficients_of servers; bidders = lists }

-- the words of a bidder are enough, and no more than are kept
pub record CanDeal (counts : Counts) (words : List ℕ) : Type 0 where
  pub enough : counts.words ≤ length (accepted words)
  pub kept : length words ≤ with_spare counts.words

-- three servers can run the auction of a book with these words
pub record CanStart (book : Book) (words : Words) : Type 0 where
  pub servers : HaveEnough (counts_of book.grid) (by_server words)
  pub cut : AreCut (counts_of book.grid) (by_server words)
  pub lists : length words.bidders ≡ length book.bidders
  pub bidders : All (CanDeal (counts_of book.grid)) words.bidders

-- a bidder that is read with its words
pub record IsFarmer (counts : Counts) (grid : Grid) (farmer : BidderWithWords) : Type 0 where
  pub curve : IsCurve farmer.bidder.curve
  pub of_grid : IsOfGrid grid farmer.bidder.curve
  pub words : CanDeal counts farmer.words

-- what is kept of all bidders of the entries
pub record AreKept (counts : Counts) (grid : Grid) (entries : List Entry)
    (kept farmers : List BidderWithWords) : Type 0 where
  pub same : farmers ≡ kept
  pub count : length kept ≡ length entries
  pub each : All (IsFarmer counts grid) kept
