use Rattle.beet_delivery.specs.Events.{after}
use Rattle.beet_delivery.proofs.NetworkFacts.{near, was_sent}
use Rattle.beet_delivery.proofs.ThreeServers.{three-is}
use Rattle.beet_delivery.proofs.laws_of_events.sent_messages_come_close.Goals as goal

pub returns : goal.returns
returns c = λ rounds es. near three-is rounds (after rounds es) (was_sent three-is rounds es)
