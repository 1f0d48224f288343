use Rattle.std.proofs.Common.{refl}
use Rattle.beet_bids.specs.Grids.{comparisons_of}
use Rattle.beet_plan.specs.Search.{tested}
use Rattle.beet_plan.proofs.five.five_rounds_law.Goals as goal

pub returns-clause-example : goal.returns-clause-example
unfolding comparisons_of tested
returns-clause-example c = refl
