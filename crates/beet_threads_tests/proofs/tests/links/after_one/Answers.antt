use Rattle.beet_threads_tests.proofs.tests.links.after_one.Goals as goal

pub put_both-requires-clause-tied : goal.put_both-requires-clause-tied
put_both-requires-clause-tied g c = rw c.of-run.ensures c.stations-one.ensures.tied.one
