use Rattle.std.proofs.Common.{sym, ◌∙◌, ap}
use Rattle.beet_gates.specs.Plans.{Plan, plan_after}
use Rattle.beet_plan.specs.declared.Finish.{Finish}
use Rattle.beet_search.proofs.WalkFacts as facts
use Rattle.beet_search.proofs.walk.WalkPlanWalk.after.Goals as goal

pub returns-then-is_open-clause-plan : goal.returns-then-is_open-clause-plan
returns-then-is_open-clause-plan c =
    c.after_product.ensures.plan ∙
    sym (facts.after-open c.args.self c.in-Search.is c.is_open.result c.is_open.ensures c.if-is_open.true c.args.number)

pub returns-else-is_open-clause-plan : goal.returns-else-is_open-clause-plan
returns-else-is_open-clause-plan c =
    c.after_end.ensures
    ∙ sym (ap (λ (p : Plan Finish). plan_after p c.args.number)
    (facts.closed-at c.args.self c.in-Search.is c.is_open.result c.is_open.ensures c.if-is_open.false))
