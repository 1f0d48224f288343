use Rattle.beet_five_server.proofs.Passing.{at-passed, away, ended-at}
use Rattle.beet_five_server.proofs.laws_of_cores.a_quiet_core_is_at_its_passed_rounds.Goals as goal

pub returns-clause-quiet : goal.returns-clause-quiet
returns-clause-quiet c d = at-passed

pub returns-clause-ended : goal.returns-clause-ended
returns-clause-ended c d = ended-at

pub returns-clause-away : goal.returns-clause-away
returns-clause-away c d = away
