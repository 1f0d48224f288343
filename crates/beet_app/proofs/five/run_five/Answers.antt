use Rattle.beet_errand.proofs.Tasks.{named_run}
use Rattle.beet_app.proofs.five.run_five.Goals as goal

pub returns : goal.returns
returns g c = named_run _ _ _ _ _ _ _ c.do_named.ensures c.end_run.ensures
