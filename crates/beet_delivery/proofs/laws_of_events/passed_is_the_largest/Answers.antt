use Rattle.beet_delivery.proofs.NetworkFacts.{passed_most}
use Rattle.beet_delivery.proofs.ThreeServers.{passed_in, passed_largest, three-is}
use Rattle.beet_delivery.proofs.laws_of_events.passed_is_the_largest.Goals as goal

pub returns-clause-most : goal.returns-clause-most
returns-clause-most c = passed_most three-is

pub returns-clause-both : goal.returns-clause-both
returns-clause-both c = passed_in

pub returns-clause-largest : goal.returns-clause-largest
returns-clause-largest c = passed_largest
