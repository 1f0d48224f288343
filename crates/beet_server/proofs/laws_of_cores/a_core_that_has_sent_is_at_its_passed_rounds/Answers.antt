use Rattle.beet_server.proofs.Passing.{at_passed, round_passed, passed_soon, round_most, ended_at}
use Rattle.beet_server.proofs.laws_of_cores.a_core_that_has_sent_is_at_its_passed_rounds.Goals as goal

pub returns-clause-quiet : goal.returns-clause-quiet
returns-clause-quiet c d = at_passed

pub returns-clause-behind : goal.returns-clause-behind
returns-clause-behind c d = λ next o x k rounds h f. (round_passed next o x k rounds h f, passed_soon next o x k rounds f)

pub returns-clause-within : goal.returns-clause-within
returns-clause-within c d = round_most

pub returns-clause-ended : goal.returns-clause-ended
returns-clause-ended c d = ended_at
