use Rattle.beet_delivery.specs.Events.{after}
use Rattle.beet_delivery.proofs.NetworkFacts.{was_sent}
use Rattle.beet_delivery.proofs.ThreeServers.{three-is}
use Rattle.beet_delivery.proofs.Undelivered.{passed_all, none_undelivered, some_undelivered, all_passed, all_and_no_others}
use Rattle.beet_delivery.proofs.laws_of_events.nothing_undelivered_means_ended.Goals as goal

pub returns-clause-ended : goal.returns-clause-ended
returns-clause-ended c = passed_all three-is

pub returns-clause-none : goal.returns-clause-none
returns-clause-none c = none_undelivered three-is

pub returns-clause-some : goal.returns-clause-some
returns-clause-some c = some_undelivered three-is

pub returns-clause-delivered : goal.returns-clause-delivered
returns-clause-delivered c = all_passed three-is

pub returns-clause-all : goal.returns-clause-all
returns-clause-all c = λ rounds es h.
    all_and_no_others three-is rounds (after rounds es) (was_sent three-is rounds es) (passed_all three-is rounds (after rounds es) h)
