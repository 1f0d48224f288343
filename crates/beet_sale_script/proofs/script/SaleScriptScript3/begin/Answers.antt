use Rattle.std.proofs.Common.{[], subst}
use Rattle.beet_gates.specs.Plans.{Plan}
use Rattle.beet_sale_plan.specs.declared.SaleEnd.{SaleEnd}
use Rattle.beet_walk.specs.Places.{IsAt}
use Rattle.beet_sale_script.specs.Walk.{plan_at, Fits}
use Rattle.beet_sale_script.proofs.script.SaleScriptScript3.begin.Goals as goal

pub returns : goal.returns
returns c = subst (λ (p : Plan SaleEnd). IsAt Fits plan_at p 0 [] c.begin.result) c.start.ensures.plan c.begin.ensures
