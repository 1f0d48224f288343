use Rattle.std.specs.Prelude.{IfSome}
use Rattle.std.proofs.Common.{[], ap, ◌∙◌, ◌≡◌}
use Rattle.beet_gates.specs.Plans.{Plan, plan_finish}
use Rattle.beet_walk.proofs.PlaceFacts.{ends-so}
use Rattle.beet_sale_plan.specs.Sale.{sale_plan}
use Rattle.beet_sale_plan.specs.declared.SaleEnd.{SaleEnd}
use Rattle.beet_sale_script.specs.Walk.{plan_at}
use Rattle.beet_sale_script.proofs.Finishes.{IsSmallEnd, opened-small, sale-tells, small-at}
use Rattle.beet_sale_script.proofs.script.SaleScript.finish.Goals as goal

pub finish-requires : goal.finish-requires
finish-requires c =
    let w = c.after_all.result in
    let s = c.args.self.now in
    let opened = c.args.opened.now in
    let is : plan_finish (plan_at w) [] ≡ plan_finish (sale_plan s) opened =
    c.after_all.ensures.finish ∙ ap (λ (p : Plan SaleEnd). plan_finish p opened) c.start.ensures.plan in
    let small : IfSome (plan_finish (plan_at w) []) IsSmallEnd = rw is (opened-small s opened c.start.ensures.few c.requires) in
    small-at w small

pub returns-clause-value : goal.returns-clause-value
returns-clause-value c =
    ends-so (plan_at c.after_all.result) c.args.opened.now c.start.ensures.plan c.after_all.ensures.finish c.finish.ensures

pub returns-clause-ended : goal.returns-clause-ended
returns-clause-ended c =
    rw (ends-so (plan_at c.after_all.result) c.args.opened.now c.start.ensures.plan c.after_all.ensures.finish c.finish.ensures)
    (sale-tells c.args.self.now c.args.opened.now)
