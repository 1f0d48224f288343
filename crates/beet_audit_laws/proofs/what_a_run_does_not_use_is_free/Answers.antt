use Rattle.beet_audit_laws.proofs.FreeFacts.{free-run}
use Rattle.beet_audit_laws.proofs.what_a_run_does_not_use_is_free.Goals as goal

pub returns : goal.returns
returns c = free-run
