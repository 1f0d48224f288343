use Rattle.beet_errand.proofs.Tasks.{answers_task}
use Rattle.beet_app.proofs.Running.{done_ends}
use Rattle.beet_app.proofs.jobs.do_job.Goals as goal

pub returns-in-Tally : goal.returns-in-Tally
returns-in-Tally g c = rw c.in-Tally.is (answers_task _ _ (done_ends _ c.tally.ensures.done) c.tally.ensures.reads)

pub returns-in-Clear : goal.returns-in-Clear
returns-in-Clear g c = rw c.in-Clear.is (answers_task _ _ c.clear.ensures.done c.clear.ensures.reads)

pub returns-in-Watch : goal.returns-in-Watch
returns-in-Watch g c = rw c.in-Watch.is (answers_task _ _ c.watch.ensures.done c.watch.ensures.reads)

pub returns-in-Rehearse : goal.returns-in-Rehearse
returns-in-Rehearse g c = rw c.in-Rehearse.is (answers_task _ _ c.rehearse.ensures.done c.rehearse.ensures.reads)

pub returns-in-Record : goal.returns-in-Record
returns-in-Record g c = rw c.in-Record.is (answers_task _ _ c.record.ensures.done c.record.ensures.reads)

pub returns-in-Audit : goal.returns-in-Audit
returns-in-Audit g c = rw c.in-Audit.is c.audit_files.ensures

pub returns-in-Worlds : goal.returns-in-Worlds
returns-in-Worlds g c = rw c.in-Worlds.is c.worlds.ensures

pub returns-in-Seal : goal.returns-in-Seal
returns-in-Seal g c = rw c.in-Seal.is (answers_task _ _ (done_ends _ c.seal_bid.ensures.done) c.seal_bid.ensures.reads)

pub returns-in-Open : goal.returns-in-Open
returns-in-Open g c = rw c.in-Open.is (answers_task _ _ c.open_envelopes.ensures.done c.open_envelopes.ensures.reads)

pub returns-in-Witness : goal.returns-in-Witness
returns-in-Witness g c = rw c.in-Witness.is (answers_task _ _ c.witness.ensures.done c.witness.ensures.reads)

pub returns-in-Trial : goal.returns-in-Trial
returns-in-Trial g c = rw c.in-Trial.is (answers_task _ _ c.trial.ensures.done (c.trial.ensures.reads _))

pub trial-requires-clause-sizes : goal.trial-requires-clause-sizes
trial-requires-clause-sizes g c κs within = rw c.in-Trial.is at c.requires.sizes
