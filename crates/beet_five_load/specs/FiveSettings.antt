-- The setting of an auction among five servers: what the files of the auction, of its servers and of its book say.
use Rattle.std.specs.Prelude.{ℕ, List}
use Rattle.beet_forms.specs.Faults.{Fault, at_row}
use Rattle.beet_gates.specs.declared.Gates.{Gates}
use Rattle.beet_gates.specs.declared.Gates.TheVariants.{Chain, Tree}
use Rattle.beet_bids.specs.Grids.{Grid}
use Rattle.beet_bids.specs.AuctionFiles.{auction_of}
use Rattle.beet_bids.specs.declared.auction_file.TheConstants.{AUCTION_LIMIT}
use Rattle.beet_book.specs.BookFiles.{book_of}
use Rattle.beet_book.specs.declared.book_file.TheConstants.{BOOK_LIMIT}
use Rattle.beet_book.specs.declared.entries.Entry.{Entry}
use Rattle.beet_book.specs.declared.server_file.TheConstants.{SERVERS_LIMIT}
use Rattle.beet_errand.specs.Errands.{Errand, Step, bad_file, gives, reads, ◌>>=◌, ◌>>◌}
use Rattle.beet_five_load.specs.FiveServerFiles.{five_seeds_of}
use Rattle.beet_five_load.specs.declared.setting.TheConstants.{GATES_ROW, TREE_GATES}

-- the grid, the seeds of the servers, and the entries of the book
pub record FiveSetting : Type 0 where
  pub grid : Grid
  pub seeds : List (List ℕ)
  pub entries : List Entry

-- what stands for an auction file whose gates are trees
abbrev pub tree_gates : Fault
tree_gates = at_row GATES_ROW TREE_GATES

-- the errand goes on if the gates of the auction are chains
abbrev pub with_chains : List ℕ → Gates → Errand → Errand
with_chains auction Chain next = next
with_chains auction Tree next = bad_file auction tree_gates

-- the three files, one after another; the gates are judged once the whole auction is read
unfoldable pub five_setting_errand : List ℕ → List ℕ → List ℕ → Step FiveSetting
five_setting_errand auction servers book = do
  grid ← reads auction AUCTION_LIMIT auction_of
  with_chains auction grid.gates
  seeds ← reads servers SERVERS_LIMIT five_seeds_of
  entries ← reads book BOOK_LIMIT book_of
  gives (record { grid = grid; seeds = seeds; entries = entries })
