use Rattle.beet_counterexample_laws.proofs.OneStatus.{one-status}
use Rattle.beet_counterexample_laws.proofs.apart.a_record_tells_the_status.Goals as goal

pub returns : goal.returns
returns c = one-status
