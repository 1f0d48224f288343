-- The job `tally`: at an auction of one price, the sums of what is supplied and demanded.
use Rattle.std.specs.Prelude.{ℕ, List, [], ◌++◌, ◌==◌, codes, decimal, if◌then◌else◌, None}
use Rattle.beet_forms.specs.Faults.{Fault, at_row}
use Rattle.beet_bids.specs.Grids.{Grid}
use Rattle.beet_bids.specs.AuctionFiles.{auction_of}
use Rattle.beet_bids.specs.Sums.{supply_at, demand_at}
use Rattle.beet_bids.specs.declared.auction_file.TheConstants.{AUCTION_LIMIT, NOT_ONE_PRICE, PRICES_ROW}
use Rattle.beet_book.specs.BookFiles.{book_of}
use Rattle.beet_book.specs.declared.book_file.TheConstants.{BOOK_LIMIT}
use Rattle.beet_book.specs.Farmers.{BidderWithWords}
use Rattle.beet_errand.specs.Errands.{Answer, Errand, Ends, Step, bad_file, gives, reads, text_answer, ◌>>=◌, ◌>>◌}
use Rattle.beet_errand.specs.Texts.{line_of}
use Rattle.beet_errand.specs.declared.answer.Status.TheVariants.{Done}
use Rattle.beet_load.specs.Wanted.{wanted_of}
use Rattle.beet_load.specs.Farmers.{farmers_errand, bidders_of}

-- the lines of the sums of supply and demand
abbrev pub sums_text : ℕ → ℕ → List ℕ
sums_text supply demand = line_of (codes "supply " ++ decimal supply) ++ line_of (codes "demand " ++ decimal demand)

-- the answer that tells the sums at the first price
abbrev pub tallied : List BidderWithWords → Answer
tallied farmers = text_answer Done (sums_text (supply_at (bidders_of farmers) 0) (demand_at (bidders_of farmers) 0))

-- what stands for an auction file whose number of prices is not one
abbrev pub not_one_price : Fault
not_one_price = at_row PRICES_ROW NOT_ONE_PRICE

-- the auction goes on if it has one price
abbrev pub one_price : List ℕ → Grid → Errand → Errand
one_price auction grid next = if grid.prices == 1 then next else bad_file auction not_one_price

-- the whole job: the auction, its book, and the bidders of the book
unfoldable pub tally_job : List ℕ → List ℕ → Step Answer
tally_job auction book = do
  grid ← reads auction AUCTION_LIMIT auction_of
  one_price auction grid
  entries ← reads book BOOK_LIMIT book_of
  farmers ← farmers_errand (wanted_of None grid) grid None [] entries
  gives (tallied farmers)

-- what it does outside
abbrev pub tally_errand : List ℕ → List ℕ → Errand
tally_errand auction book = tally_job auction book Ends
