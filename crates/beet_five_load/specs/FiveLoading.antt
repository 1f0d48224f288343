-- Reading an auction among five servers: its grid, the seeds of its servers, and its book.
use Rattle.std.specs.Prelude.{◌≡◌, ℕ, List, [], length, map, None}
use Rattle.beet_bids.specs.Books.{Book, IsBook}
use Rattle.beet_bids.specs.Grids.{Grid}
use Rattle.beet_book.specs.Farmers.{BidderWithWords, book_with, farmers_of}
use Rattle.beet_errand.specs.Errands.{Step, gives, ◌>>=◌, ◌>>◌}
use Rattle.beet_five_dealing.specs.FiveTotals.{five_inputs_of}
use Rattle.beet_five_dealing.specs.FiveWords.{CanRun, FiveWords}
use Rattle.beet_load.specs.Farmers.{farmers_errand}
use Rattle.beet_load.specs.Limits.{within_product}
use Rattle.beet_five_load.specs.FiveServers.{AreFew, ServerLists, lists_of, servers_errand}
use Rattle.beet_five_load.specs.FiveSettings.{FiveSetting, five_setting_errand}
use Rattle.beet_five_load.specs.FiveWants.{wanted_of_five}

-- an auction among five servers that is read: its book, and the words of the servers and of the bidders
pub record FiveRead : Type 0 where
  pub book : Book
  pub words : FiveWords

-- the words of these servers and bidders
abbrev pub words_with : ServerLists → List BidderWithWords → FiveWords
words_with lists farmers = record {
  masks = lists.masks;
  coefficients = lists.coefficients;
  bidders = map (λ farmer. farmer.words) farmers;
}

-- the auction over a grid with these servers and bidders
abbrev pub read_with : Grid → ServerLists → List BidderWithWords → FiveRead
read_with grid lists farmers = record { book = book_with grid farmers; words = words_with lists farmers }

-- what is read after the setting: the words of the servers, and then the bidders
unfoldable pub five_rest_errand : FiveSetting → Step FiveRead
five_rest_errand setting = do
  servers ← servers_errand (wanted_of_five setting.grid) [] setting.seeds
  farmers ← farmers_errand (wanted_of_five setting.grid) setting.grid None [] setting.entries
  gives (read_with setting.grid (lists_of servers) farmers)

-- an auction, its servers and its book
unfoldable pub five_loaded_errand : List ℕ → List ℕ → List ℕ → Step FiveRead
five_loaded_errand auction servers book = do
  setting ← five_setting_errand auction servers book
  five_rest_errand setting

-- what is read after the setting, if its book is within the limit
abbrev pub five_limited_rest : List ℕ → FiveSetting → Step FiveRead
five_limited_rest book setting =
    within_product 0 book setting.grid (length setting.entries) >> five_rest_errand setting

-- an auction, its servers and its book, of which the limit is tested right after it is read
unfoldable pub five_limited_errand : List ℕ → List ℕ → List ℕ → Step FiveRead
five_limited_errand auction servers book = do
  setting ← five_setting_errand auction servers book
  five_limited_rest book setting

-- what the program keeps of an auction that is read: of the bidders it keeps the points of their sums alone
pub record FiveWithInputs : Type 0 where
  pub grid : Grid
  pub masks : List (List ℕ)
  pub coefficients : List (List ℕ)
  pub inputs : List (List ℕ)

-- what is kept of an auction that is read, which can be run: the inputs are the shares that its bidders deal, added up
pub record IsFiveKeptOf (kept : FiveWithInputs) (read : FiveRead) : Type 0 where
  pub grid : read.book.grid ≡ kept.grid
  pub masks : read.words.masks ≡ kept.masks
  pub coefficients : read.words.coefficients ≡ kept.coefficients
  pub book : IsBook read.book
  pub runs : CanRun read.book read.words
  pub few_masks : AreFew kept.masks
  pub few_coefficients : AreFew kept.coefficients
  pub inputs : kept.inputs ≡ five_inputs_of read.book.grid (farmers_of read.book.bidders read.words.bidders)
