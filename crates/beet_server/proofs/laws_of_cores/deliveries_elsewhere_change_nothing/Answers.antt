use Rattle.beet_server.proofs.Passing.{elsewhere, away}
use Rattle.beet_server.proofs.laws_of_cores.deliveries_elsewhere_change_nothing.Goals as goal

pub returns-clause-same : goal.returns-clause-same
returns-clause-same c d = elsewhere

pub returns-clause-away : goal.returns-clause-away
returns-clause-away c d = away
