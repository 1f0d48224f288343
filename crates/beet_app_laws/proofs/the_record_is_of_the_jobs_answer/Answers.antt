use Rattle.beet_app_laws.proofs.Recorded.{records}
use Rattle.beet_app_laws.proofs.the_record_is_of_the_jobs_answer.Goals as goal

pub returns : goal.returns
returns c = records
