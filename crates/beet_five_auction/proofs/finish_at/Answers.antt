use Rattle.std.proofs.Common.{ℕ, List, ap, ◌∙◌, subst}
use Rattle.beet_gates.specs.Ends.{ComesTo, TellsEnd}
use Rattle.beet_gates.specs.Plans.{plan_finish}
use Rattle.beet_plan.specs.FivePlan.{five_batch, five_plan}
use Rattle.beet_five_auction.proofs.FiveCores.{opens-the-outcome, tells-end}
use Rattle.beet_five_auction.proofs.finish_at.Goals as goal

pub returns-clause-value : goal.returns-clause-value
returns-clause-value c =
    c.finish.ensures.value ∙ ap (λ a. plan_finish (five_plan a) c.opened.result.now) c.script.ensures
    ∙ ap (plan_finish (five_plan c.args.core.now.work.script)) c.opened.ensures.value

pub returns-clause-ended : goal.returns-clause-ended
returns-clause-ended c =
    let w = c.args.core.now.work in
    tells-end w c.finish.result
    (subst (λ (opened : List ℕ). ComesTo (five_batch w.script) w.round opened) c.opened.ensures.value c.opened.ensures.came)
    (subst (λ (opened : List ℕ). TellsEnd (five_batch w.script) opened c.finish.result) c.opened.ensures.value
    (subst (λ script. TellsEnd (five_batch script) c.opened.result.now c.finish.result) c.script.ensures c.finish.ensures.ended))

pub returns-clause-outcome : goal.returns-clause-outcome
returns-clause-outcome c = λ book o x b few script are server fits ended.
    let w = c.args.core.now.work in
    let e = opens-the-outcome o x w c.args.core.now.mail fits book b few script are server ended in (
      c.finish.ensures.value ∙ ap (λ a. plan_finish (five_plan a) c.opened.result.now) c.script.ensures
          ∙ ap (plan_finish (five_plan w.script)) c.opened.ensures.value ∙ e.0,
      e.1,
    )
