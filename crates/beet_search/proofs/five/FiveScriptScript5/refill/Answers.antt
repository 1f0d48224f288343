use Rattle.beet_plan.specs.FivePlan.{five_plan}
use Rattle.beet_search.proofs.five.FiveScriptScript5.refill.Goals as goal

pub refill-requires : goal.refill-requires
refill-requires c = (five_plan c.args.self.now, c.requires)

pub returns-clause-batch : goal.returns-clause-batch
returns-clause-batch c = c.refill.ensures.batch (five_plan c.args.self.now) c.requires

pub returns-clause-place : goal.returns-clause-place
returns-clause-place c = c.refill.ensures.place (five_plan c.args.self.now) c.requires
