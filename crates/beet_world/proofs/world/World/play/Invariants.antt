use Rattle.std.proofs.Common.{◌≡◌, drop}
use Rattle.beet_delivery.specs.Events.{after_from}
use Rattle.beet_world.specs.Worlds.{delivered_in, named_in, rounds_in}
use Rattle.beet_world.proofs.world.World.play.Given as goal

abbrev pub invariant-loop-delivery : goal.invariant-loop-delivery
invariant-loop-delivery g l =
    let script = g.S.Script in
    record {
      rest : after_from (rounds_in script.batch_of script.inputs_of script.rounds_of l.fn.self) (delivered_in l.self)
          (named_in (drop l.delivery-index l.schedule))
          ≡ after_from (rounds_in script.batch_of script.inputs_of script.rounds_of l.fn.self) (delivered_in l.fn.self)
          (named_in l.schedule);
      start : l.self.start ≡ l.fn.self.start;
    }
