use Rattle.beet_job_rehearse.proofs.AllEnded.{all-ended}
use Rattle.beet_job_rehearse.proofs.laws.nothing_undelivered_tells_the_end.Goals as goal

pub returns : goal.returns
returns c = all-ended
