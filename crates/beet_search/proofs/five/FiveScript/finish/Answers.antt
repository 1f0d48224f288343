use Rattle.beet_walk.proofs.PlaceFacts.{ends-so}
use Rattle.beet_search.specs.Walk.{plan_at}
use Rattle.beet_plan.proofs.FiveFacts.{five-tells}
use Rattle.beet_search.proofs.five.FiveScript.finish.Goals as goal

pub returns-clause-value : goal.returns-clause-value
returns-clause-value c =
    ends-so (plan_at c.after_all.result) c.args.opened.now c.start.ensures.plan c.after_all.ensures.finish c.finish.ensures

pub returns-clause-ended : goal.returns-clause-ended
returns-clause-ended c =
    rw (ends-so (plan_at c.after_all.result) c.args.opened.now c.start.ensures.plan c.after_all.ensures.finish c.finish.ensures)
    (five-tells c.args.self.now c.args.opened.now)
