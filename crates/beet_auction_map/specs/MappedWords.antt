-- The words of two worlds of an auction that one server cannot tell apart.
use Rattle.std.specs.Prelude.{map}
use Rattle.beet_field.specs.declared.point.Point.{Point}
use Rattle.beet_words.specs.Bundles.{Words}
use Rattle.beet_bids.specs.Books.{Book}
use Rattle.beet_plan.specs.Auction.{auction_batch, auction_over, most_rounds}
use Rattle.beet_book.specs.Farmers.{book_inputs, farmers_of}
use Rattle.beet_mapped.specs.Trades.{IsOnly, Trade, TradesMapped}
use Rattle.beet_two_books.specs.Losses.{losses_of}
use Rattle.beet_auction_map.specs.MappedBidders.{party_of}

-- the auction of a book: its inputs are the sums of the points that the bidders deal by their words
abbrev pub trade_of : Book → Trade
trade_of book = record {
  next = auction_batch (auction_over book.grid);
  most = most_rounds (auction_over book.grid);
  parties = map party_of book.bidders;
  inputs = λ words. book_inputs book.grid.prices (farmers_of book.bidders words);
}

-- the words of two worlds, mapped for server s
abbrev pub Mapped : Point → Book → Words → Book → Words → Type 0
Mapped s first words second words' =
    TradesMapped s (losses_of first second) (trade_of first) words (trade_of second) words'

-- no other words of the second world go with those of the first
abbrev pub IsOnlySecond : Point → Book → Words → Book → Words → Type 0
IsOnlySecond s first words second words' = IsOnly (Mapped s first words second) words'

-- and no other words of the first world go with those of the second
abbrev pub IsOnlyFirst : Point → Book → Words → Book → Words → Type 0
IsOnlyFirst s first words second words' = IsOnly (λ other. Mapped s first other second words') words
