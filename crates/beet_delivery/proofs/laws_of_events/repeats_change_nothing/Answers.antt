use Rattle.beet_delivery.specs.Events.{nothing}
use Rattle.beet_delivery.proofs.NetworkFacts.{repeat_same}
use Rattle.beet_delivery.proofs.Adding.{adding_same, adding_once, adding_sent}
use Rattle.beet_delivery.proofs.ThreeServers.{three-is}
use Rattle.beet_delivery.proofs.laws_of_events.repeats_change_nothing.Goals as goal

pub returns-clause-repeat : goal.returns-clause-repeat
returns-clause-repeat c = repeat_same three-is

pub returns-clause-events : goal.returns-clause-events
returns-clause-events c = λ rounds x es. adding_same three-is rounds es x

pub returns-clause-whole : goal.returns-clause-whole
returns-clause-whole c = λ rounds es. adding_same three-is rounds es nothing

pub returns-clause-once : goal.returns-clause-once
returns-clause-once c = λ rounds x es. adding_once three-is rounds es x

pub returns-clause-added : goal.returns-clause-added
returns-clause-added c = λ rounds x es. adding_sent three-is rounds es x
