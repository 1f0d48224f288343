use Rattle.beet_delivery.specs.Networks.{nothing}
use Rattle.beet_five_world.proofs.WorldFacts.{led-all}
use Rattle.beet_five_world.proofs.laws_of_worlds.servers_stand_after_all_events.Goals as goal

pub returns : goal.returns
returns c d = λ next old new es lead script o rounds f. led-all next script o rounds es old new nothing lead f
