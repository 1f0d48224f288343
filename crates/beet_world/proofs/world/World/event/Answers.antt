use Rattle.std.proofs.Common.{sym}
use Rattle.beet_delivery.proofs.NetworkFacts.{deliver_repeat}
use Rattle.beet_delivery.proofs.ThreeServers.{three-is}
use Rattle.beet_world.specs.Worlds.{delivered_in, rounds_in}
use Rattle.beet_world.proofs.world.World.event.Goals as goal

pub returns-in-Some-repeated-clause-delivered : goal.returns-in-Some-repeated-clause-delivered
returns-in-Some-repeated-clause-delivered g c =
    let script = g.S.Script in
    sym (deliver_repeat three-is (rounds_in script.batch_of script.inputs_of script.rounds_of c.args.self.now)
    (delivered_in c.args.self.now)
    (record { from = c.args.from; to = c.args.to; round = c.args.round }) c.in-Some-repeated.ensures.there)

pub returns-clause-event : goal.returns-clause-event
returns-clause-event g c = c.give_copy.ensures.told

pub returns-clause-delivered : goal.returns-clause-delivered
returns-clause-delivered g c = c.give_copy.ensures.delivered

pub returns-clause-start : goal.returns-clause-start
returns-clause-start g c = c.give_copy.ensures.start

pub returns-clause-unchanged : goal.returns-clause-unchanged
returns-clause-unchanged g c = c.give_copy.ensures.unchanged
