use Rattle.beet_job_trial.proofs.Curves.{bought-more}
use Rattle.beet_job_trial.proofs.rules.bought.Goals as goal

pub loop-place-preserved : goal.loop-place-preserved
loop-place-preserved c =
    rw c.in_ok-push.ensures.items
    (bought-more c.loop-place.quantities.items c.args.prices c.args.weight c.loop-place.place c.loop-place.invariant)
