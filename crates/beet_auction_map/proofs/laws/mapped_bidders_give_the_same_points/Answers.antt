use Rattle.beet_auction_map.proofs.BidderFacts.{inputs-same}
use Rattle.beet_auction_map.proofs.laws.mapped_bidders_give_the_same_points.Goals as goal

pub returns : goal.returns
returns c = inputs-same
