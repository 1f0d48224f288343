use Rattle.std.proofs.Common.{map}
use Rattle.beet_trades.proofs.MappedSoFar.{MappedSoFar}
use Rattle.beet_sale_map.specs.Worlds.{party_of}
use Rattle.beet_sale_map.proofs.bidders.map_bidders.Given as goal

abbrev pub invariant-loop-i : goal.invariant-loop-i
invariant-loop-i l = MappedSoFar l.me (map party_of l.first) (map party_of l.second) l.words l.mapped.items l.i
