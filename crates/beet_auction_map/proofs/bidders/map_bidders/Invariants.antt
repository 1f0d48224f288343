use Rattle.std.proofs.Common.{map}
use Rattle.beet_trades.proofs.MappedSoFar.{MappedSoFar}
use Rattle.beet_auction_map.specs.MappedBidders.{party_of}
use Rattle.beet_auction_map.proofs.bidders.map_bidders.Given as goal

abbrev pub invariant-loop-i : goal.invariant-loop-i
invariant-loop-i l = MappedSoFar l.me (map party_of l.first.bidders) (map party_of l.second.bidders) l.words l.mapped.items l.i
