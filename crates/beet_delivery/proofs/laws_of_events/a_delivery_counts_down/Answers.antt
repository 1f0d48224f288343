use Rattle.beet_delivery.proofs.Counting.{counts_down, one_fewer}
use Rattle.beet_delivery.proofs.ThreeServers.{three-is}
use Rattle.beet_delivery.proofs.laws_of_events.a_delivery_counts_down.Goals as goal

pub returns-clause-counts : goal.returns-clause-counts
returns-clause-counts c = counts_down three-is

pub returns-clause-fewer : goal.returns-clause-fewer
returns-clause-fewer c = one_fewer three-is
