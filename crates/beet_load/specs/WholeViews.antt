-- What the program keeps of an auction that is read whole.
use Rattle.beet_words.specs.Bundles.{Words}
use Rattle.beet_bids.specs.Books.{Book}
use Rattle.beet_book.specs.Farmers.{farmers_of}
use Rattle.beet_load.specs.Loading.{AuctionWithBidders}
use Rattle.beet_load.specs.Wholes.{by_server}
use Rattle.beet_load.specs.declared.whole.Whole.{Whole}

-- what is read as a book, with the words of its servers and of its bidders
abbrev pub loaded_with : Book → Words → AuctionWithBidders
loaded_with book words = record {
  grid = book.grid;
  servers = by_server words;
  farmers = farmers_of book.bidders words.bidders;
}

-- the auction that is read, by what the program keeps of it
abbrev pub loaded_of : Whole → AuctionWithBidders
loaded_of whole = loaded_with whole.book whole.words
