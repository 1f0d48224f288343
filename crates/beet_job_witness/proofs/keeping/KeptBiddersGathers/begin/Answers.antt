use Rattle.beet_job_witness.proofs.KeepingSteps.{keeps-none}
use Rattle.beet_job_witness.proofs.keeping.KeptBiddersGathers.begin.Goals as goal

pub returns : goal.returns
returns c = keeps-none _ _ _ c.in_ok-new.ensures c.new-2.ensures
