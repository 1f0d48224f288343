use Rattle.std.proofs.Common.{drop}
use Rattle.beet_five_world.specs.Members.{named_in}
use Rattle.beet_five_world.proofs.PlayFacts.{LeadsOn}
use Rattle.beet_five_world.proofs.world.FiveWorld.play.Given as goal

abbrev pub invariant-loop-delivery : goal.invariant-loop-delivery
invariant-loop-delivery g l =
    LeadsOn g.S.Script.batch_of l.fn.self l.self (named_in (drop l.delivery-index l.schedule)) (named_in l.schedule)
