use Rattle.beet_delivery.specs.Networks.{after}
use Rattle.beet_delivery.proofs.NetworkFacts.{was_sent, was_sent_parts}
use Rattle.beet_five_server.specs.Network.{five}
use Rattle.beet_five_server.proofs.Networking.{five-is}
use Rattle.beet_five_server.proofs.Passing.{five-apart}
use Rattle.beet_five_server.proofs.laws_of_cores.rounds_stay_close.Goals as goal

pub returns-clause-apart : goal.returns-clause-apart
returns-clause-apart c = λ rounds es s other a b. five-apart rounds (after five rounds es) (was_sent five-is rounds es) s other a b

pub returns-clause-sent : goal.returns-clause-sent
returns-clause-sent c = was_sent_parts five-is
