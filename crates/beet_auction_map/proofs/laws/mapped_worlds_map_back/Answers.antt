use Rattle.beet_auction_map.proofs.BidderFacts.{bidders-back}
use Rattle.beet_two_books.proofs.MasksBack.{agree-back, books-back}
use Rattle.beet_auction_map.proofs.laws.mapped_worlds_map_back.Goals as goal

pub returns-clause-books : goal.returns-clause-books
returns-clause-books c = agree-back

pub returns-clause-masks : goal.returns-clause-masks
returns-clause-masks c = λ s first second words words' agree small m. books-back s first second agree words words' small m

pub returns-clause-bidders : goal.returns-clause-bidders
returns-clause-bidders c = λ s first second words words' b b' all m.
    bidders-back s first.bidders second.bidders words words' b.curves b'.curves all m
