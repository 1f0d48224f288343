use Rattle.beet_counterexample_laws.proofs.DoneRuns.{apart_of_five}
use Rattle.beet_counterexample_laws.proofs.done.what_two_servers_tell_apart_has_a_run.Goals as goal

pub returns : goal.returns
returns c = apart_of_five
