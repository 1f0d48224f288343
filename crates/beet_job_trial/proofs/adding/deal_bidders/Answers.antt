use Rattle.beet_job_trial.proofs.Bidders.{no-memory, part-stops}
use Rattle.beet_job_trial.proofs.adding.deal_bidders.Goals as goal

pub returns-in_err-curves : goal.returns-in_err-curves
returns-in_err-curves g c = part-stops c.args.grid.now 0 c.args.bidders _ c.from_residual.ensures.1 no-memory
