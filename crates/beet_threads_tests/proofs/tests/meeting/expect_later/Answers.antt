use Rattle.beet_threads_tests.proofs.tests.meeting.expect_later.Goals as goal

pub put_both-requires-clause-tied : goal.put_both-requires-clause-tied
put_both-requires-clause-tied g c = rw c.of-run.ensures c.stations-one.ensures.tied.two

pub put_both-requires-2-clause-tied : goal.put_both-requires-2-clause-tied
put_both-requires-2-clause-tied g c = rw c.of-run.ensures c.stations-one.ensures.tied.three

pub serve-mail-requires-clause-tied : goal.serve-mail-requires-clause-tied
serve-mail-requires-clause-tied g c κs within = rw c.of-run.ensures c.stations-one.ensures.tied.one
