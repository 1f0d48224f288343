use Rattle.beet_job_trial.proofs.Curves.{sold-more}
use Rattle.beet_job_trial.proofs.rules.sold.Goals as goal

pub loop-place-preserved : goal.loop-place-preserved
loop-place-preserved c =
    rw c.in_ok-push.ensures.items (sold-more c.loop-place.quantities.items c.args.weight c.loop-place.place c.loop-place.invariant)
