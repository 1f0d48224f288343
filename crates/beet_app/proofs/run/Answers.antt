use Rattle.beet_errand.proofs.Tasks.{named_run}
use Rattle.beet_app.proofs.Showing.{run_shows}
use Rattle.beet_app.proofs.run.Goals as goal

pub returns-then-names_five-clause-shows : goal.returns-then-names_five-clause-shows
returns-then-names_five-clause-shows g c = λ done. run_shows _ _ _ _ _ (c.run_five.ensures.shows done)

pub returns-clause-does : goal.returns-clause-does
returns-clause-does g c = named_run _ _ _ _ _ _ _ c.do_named.ensures c.end_run.ensures

pub returns-clause-shows : goal.returns-clause-shows
returns-clause-shows g c = λ done. run_shows _ _ _ _ _ ((named_run _ _ _ _ _ _ _ c.do_named.ensures c.end_run.ensures).shows done)
