-- Reading an auction, its servers and its book: what three servers begin with.
use Rattle.std.specs.Prelude.{◌≡◌, ℕ, List, [], length, Option, Some, None}
use Rattle.beet_field.specs.declared.trio.Trio.{Trio}
use Rattle.beet_bids.specs.Grids.{Grid}
use Rattle.beet_bids.specs.Books.{IsBook}
use Rattle.beet_book.specs.Dealing.{AreShares}
use Rattle.beet_bids.specs.Sums.{sums_of}
use Rattle.beet_errand.specs.Errands.{Step, gives, ◌>>=◌}
use Rattle.beet_book.specs.Farmers.{BidderWithWords, book_with}
use Rattle.beet_load.specs.Farmers.{farmers_errand}
use Rattle.beet_load.specs.Servers.{ServerWords, all_words_errand}
use Rattle.beet_load.specs.Settings.{Setting, setting_errand}
use Rattle.beet_load.specs.Wanted.{wanted_of}

-- an auction that is read: its grid, the words of its servers, and the bidders of its book
pub record AuctionWithBidders : Type 0 where
  pub grid : Grid
  pub servers : Trio ServerWords
  pub farmers : List BidderWithWords

-- what is read after the setting: the words of the servers, and then the bidders
unfoldable pub rest_errand : Option ℕ → Setting → Step AuctionWithBidders
rest_errand lot setting = do
  words ← all_words_errand (wanted_of lot setting.grid) (Some (length setting.entries)) setting.sources
  farmers ← farmers_errand (wanted_of lot setting.grid) setting.grid words.bidders [] setting.entries
  gives (record { grid = setting.grid; servers = words.servers; farmers = farmers })

-- an auction, its servers and its book: the words of the servers come after the entries of the book, and the bidders
-- after them
unfoldable pub loaded_errand : List ℕ → List ℕ → List ℕ → Step AuctionWithBidders
loaded_errand auction servers book = do
  setting ← setting_errand auction servers book
  rest_errand None setting

-- what the program keeps of an auction that is read: of the bidders it keeps the points of their sums alone
pub record AuctionWithInputs : Type 0 where
  pub grid : Grid
  pub servers : Trio ServerWords
  pub inputs : Trio (List ℕ)

-- what is kept of an auction that is read: the inputs are points of lines with the sums of its book
pub record IsKeptOf (kept : AuctionWithInputs) (loaded : AuctionWithBidders) : Type 0 where
  pub grid : loaded.grid ≡ kept.grid
  pub servers : loaded.servers ≡ kept.servers
  pub book : IsBook (book_with kept.grid loaded.farmers)
  pub shares : AreShares (sums_of (book_with kept.grid loaded.farmers)) kept.inputs
