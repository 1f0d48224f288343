use Rattle.beet_plan.proofs.FiveRuns.{five-ends}
use Rattle.beet_search.proofs.laws.five_law.Goals as goal

pub returns-clause-ends : goal.returns-clause-ends
returns-clause-ends c = five-ends
