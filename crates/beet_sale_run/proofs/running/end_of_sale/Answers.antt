use Rattle.std.proofs.Common.{sym, ap, ◌∙◌}
use Rattle.beet_gates.specs.Plans.{plan_finish}
use Rattle.beet_sale_plan.specs.Sale.{Sale, sale_plan}
use Rattle.beet_sale_run.proofs.Held.{held-named, held-opened, held-rounds, no-end}
use Rattle.beet_sale_run.proofs.running.end_of_sale.Goals as goal
use Rattle.beet_gates.proofs.Lists.{from-some}

pub finish-requires : goal.finish-requires
finish-requires c =
    rw (c.script.ensures, c.opened.ensures)
    (held-opened c.requires.0 c.requires.1 c.requires.2 c.args.core.now c.requires.3)

pub unreachable-requires : goal.unreachable-requires
unreachable-requires c =
    no-end c.finish.result c.in-None.is
    (held-named c.requires.0 c.requires.1 c.requires.2 c.args.core.now c.requires.3 c.finish.result
    (c.finish.ensures.value ∙ ap (λ (s : Sale). plan_finish (sale_plan s) c.opened.result.now) c.script.ensures
    ∙ ap (plan_finish (sale_plan c.args.core.now.script)) c.opened.ensures))

pub returns : goal.returns
returns c read cores h e = (
  from-some (sym c.in-Some.is
      ∙ held-named read cores h c.args.core.now e c.finish.result
      (c.finish.ensures.value ∙ ap (λ (s : Sale). plan_finish (sale_plan s) c.opened.result.now) c.script.ensures
      ∙ ap (plan_finish (sale_plan c.args.core.now.script)) c.opened.ensures)),
  c.round.ensures ∙ held-rounds read cores h c.args.core.now e,
)
