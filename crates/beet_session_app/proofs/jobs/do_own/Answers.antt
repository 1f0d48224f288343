use Rattle.beet_errand.proofs.Tasks.{answers_task}
use Rattle.beet_session_app.proofs.jobs.do_own.Goals as goal

pub returns-in-Session : goal.returns-in-Session
returns-in-Session g c = rw c.in-Session.is (answers_task _ _ c.session.ensures.done c.session.ensures.reads)

pub returns-in-Replay : goal.returns-in-Replay
returns-in-Replay g c = rw c.in-Replay.is (answers_task _ _ c.replay.ensures.done c.replay.ensures.reads)
