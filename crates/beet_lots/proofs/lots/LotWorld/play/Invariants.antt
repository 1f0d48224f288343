use Rattle.std.proofs.Common.{drop}
use Rattle.beet_lots.specs.LotWorlds.{lot_triples}
use Rattle.beet_lots.proofs.LotFacts.{PlaysOn}
use Rattle.beet_lots.proofs.lots.LotWorld.play.Given as goal

abbrev pub invariant-loop-delivery : goal.invariant-loop-delivery
invariant-loop-delivery g l =
    PlaysOn g.S.Script.batch_of g.S.Script.inputs_of g.S.Script.rounds_of l.fn.self l.self
    (lot_triples (drop l.delivery-index l.schedule)) (lot_triples l.schedule)
