use Rattle.beet_lot_map.proofs.LotSteps.{AreEnoughBefore}
use Rattle.beet_lot_map.proofs.wanted.enough_each.Given as goal

abbrev pub invariant-loop-i : goal.invariant-loop-i
invariant-loop-i l = AreEnoughBefore l.books l.words l.i
