use Rattle.beet_five_map.proofs.MappedLists.{ListsTo}
use Rattle.beet_five_map.proofs.bidders.map_bidders.Given as goal

abbrev pub invariant-loop-i : goal.invariant-loop-i
invariant-loop-i l = ListsTo l.two.a l.two.b l.first.grid.prices l.first.bidders l.second.bidders l.words l.mapped.items l.i
