use Rattle.std.proofs.Common.{ap, ◌∙◌}
use Rattle.beet_gates.specs.Plans.{Plan, plan_batch}
use Rattle.beet_sale_plan.specs.declared.SaleEnd.{SaleEnd}
use Rattle.beet_sale_script.proofs.script.SaleScriptScript3.next.Goals as goal

pub returns : goal.returns
returns c =
    c.batch.ensures ∙ ap (λ (p : Plan SaleEnd). plan_batch p c.args.done c.args.opened.now) c.start.ensures.plan
