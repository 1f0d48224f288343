use Rattle.std.proofs.Common.{ap, ◌∙◌}
use Rattle.beet_gates.specs.Plans.{Plan, plan_batch}
use Rattle.beet_plan.specs.declared.Finish.{Finish}
use Rattle.beet_search.proofs.five.FiveScriptScript5.next.Goals as goal

pub returns : goal.returns
returns c =
    c.batch.ensures ∙ ap (λ (p : Plan Finish). plan_batch p c.args.done c.args.opened.now) c.start.ensures.plan
