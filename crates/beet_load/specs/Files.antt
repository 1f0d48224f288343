-- The names of the files of an auction.
use Rattle.std.specs.Prelude.{ℕ, List}
use Rattle.beet_load.specs.declared.files.AuctionFiles.{AuctionFiles}

-- what is made of the names of the files of an auction, of its servers and of its book
abbrev pub of_files : {A : Type 0} → (List ℕ → List ℕ → List ℕ → A) → AuctionFiles → A
of_files made files = made files.auction.now files.servers.now files.book.now
