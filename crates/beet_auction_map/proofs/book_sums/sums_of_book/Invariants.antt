use Rattle.std.proofs.Common.{◌≡◌}
use Rattle.beet_bids.specs.Sums.{sums_of}
use Rattle.beet_auction_map.proofs.BookSumFacts.{first_of}
use Rattle.beet_auction_map.proofs.book_sums.sums_of_book.Given as goal

abbrev pub invariant-loop-bidder : goal.invariant-loop-bidder
invariant-loop-bidder l = l.sums.items ≡ sums_of (first_of l.book l.bidder-index)
