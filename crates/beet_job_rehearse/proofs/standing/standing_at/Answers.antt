use Rattle.std.proofs.Common.{sym, ◌∙◌, ap}
use Rattle.beet_job_rehearse.specs.declared.standing.Standing.TheVariants.{Waiting}
use Rattle.beet_job_rehearse.proofs.ServerStands.{ends, waits}
use Rattle.beet_job_rehearse.proofs.standing.standing_at.Goals as goal

pub returns-then-ended : goal.returns-then-ended
returns-then-ended c = λ world at is rounds finish e.
    ends world at c.args.core.now is rounds finish e (sym c.ended.ensures ∙ c.if-ended.true) c.finish_at.result c.finish_at.ensures

pub returns-else-ended : goal.returns-else-ended
returns-else-ended c = λ world at is rounds finish e.
    ap Waiting c.round.ensures
    ∙ waits world at c.args.core.now is rounds finish e (sym c.ended.ensures ∙ c.if-ended.false)
