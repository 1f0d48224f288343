use Rattle.beet_errand.proofs.Tasks.{named_run}
use Rattle.beet_sale_app.proofs.run_sale.Goals as goal

pub returns : goal.returns
returns g c = named_run _ _ _ _ _ _ _ c.do_named.ensures c.end_run.ensures
