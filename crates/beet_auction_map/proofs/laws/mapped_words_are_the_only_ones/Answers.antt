use Rattle.beet_auction_map.proofs.BidderFacts.{bidders-back, bidders-only}
use Rattle.beet_auction_map.proofs.laws.mapped_words_are_the_only_ones.Goals as goal

pub returns-clause-images : goal.returns-clause-images
returns-clause-images c = bidders-only

pub returns-clause-sources : goal.returns-clause-sources
returns-clause-sources c = λ s first second words u v b b' all all' e e' m m'.
    bidders-only s second.bidders first.bidders words u v e e'
    (bidders-back s first.bidders second.bidders u words b.curves b'.curves all m)
    (bidders-back s first.bidders second.bidders v words b.curves b'.curves all' m')
