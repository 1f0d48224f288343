use Rattle.beet_sale_plan.specs.Sale.{sale_plan}
use Rattle.beet_sale_script.proofs.script.SaleScriptScript3.refill.Goals as goal

pub refill-requires : goal.refill-requires
refill-requires c = (sale_plan c.args.self.now, c.requires)

pub returns-clause-batch : goal.returns-clause-batch
returns-clause-batch c = c.refill.ensures.batch (sale_plan c.args.self.now) c.requires

pub returns-clause-place : goal.returns-clause-place
returns-clause-place c = c.refill.ensures.place (sale_plan c.args.self.now) c.requires
