-- What the files of a command are read as, one after another.
use Rattle.std.specs.Prelude.{◌≡◌, ℕ, List, [], Some, None}
use Rattle.beet_store.specs.Files.{File}
use Rattle.beet_bids.specs.AuctionFiles.{auction_of}
use Rattle.beet_bids.specs.BidFiles.{bid_of}
use Rattle.beet_bids.specs.declared.auction_file.TheConstants.{AUCTION_LIMIT}
use Rattle.beet_bids.specs.declared.bid_file.TheConstants.{BID_LIMIT}
use Rattle.beet_book.specs.BookFiles.{book_of}
use Rattle.beet_book.specs.ServerFiles.{servers_of}
use Rattle.beet_book.specs.declared.book_file.TheConstants.{BOOK_LIMIT}
use Rattle.beet_book.specs.declared.entries.BidderSource.{BidderSource}
use Rattle.beet_book.specs.declared.server_file.TheConstants.{SERVERS_LIMIT}
use Rattle.beet_farmer.specs.Lists.{list_of}
use Rattle.beet_farmer.specs.declared.list_file.TheConstants.{LIST_LIMIT}
use Rattle.beet_errand.specs.Errands.{Step, reads}
use Rattle.beet_errand.specs.Overs.{ReadsTo}
use Rattle.beet_load.specs.Farmers.{farmers_errand}
use Rattle.beet_load.specs.Servers.{all_words_errand}
use Rattle.beet_load.specs.Wanted.{wanted_of}
use Rattle.beet_gathering.specs.Gather.{bidders_errand}
use Rattle.beet_job_envelopes.specs.Seal.{own_words_errand}
use Rattle.beet_job_envelopes.specs.SourceWords.{source_word}

-- a value that a step reads from these files
pub record Read {A : Type 0} (files : List File) (step : Step A) : Type 0 where
  pub value : A
  pub is : ReadsTo files step value

-- `tally`: an auction, its book, and the bidders of the book with words that are enough
pub record TallyRead (files : List File) (auction book : List ℕ) : Type 0 where
  pub grid : Read files (reads auction AUCTION_LIMIT auction_of)
  pub entries : Read files (reads book BOOK_LIMIT book_of)
  pub farmers : Read files (farmers_errand (wanted_of None grid.value) grid.value None [] entries.value)

-- `seal`: an auction, a bid, and words of the farmer that are enough
pub record SealRead (files : List File) (auction bid source : List ℕ) : Type 0 where
  pub grid : Read files (reads auction AUCTION_LIMIT auction_of)
  pub curve : Read files (reads bid BID_LIMIT (bid_of grid.value))
  pub from : BidderSource
  pub from_is : source_word source ≡ Some from
  pub words : Read files (own_words_errand grid.value from)

-- `open`: an auction, the words of its servers, and the points in the envelopes of a list
pub record OpenRead (files : List File) (auction servers list : List ℕ) : Type 0 where
  pub grid : Read files (reads auction AUCTION_LIMIT auction_of)
  pub sources : Read files (reads servers SERVERS_LIMIT servers_of)
  pub entries : Read files (reads list LIST_LIMIT list_of)
  pub words : Read files (all_words_errand (wanted_of None grid.value) None sources.value)
  pub bidders : Read files (bidders_errand grid.value [] entries.value)
