use Rattle.beet_errand.proofs.Tasks.{answers_task}
use Rattle.beet_app.proofs.five.do_job.Goals as goal

pub returns-in-Five : goal.returns-in-Five
returns-in-Five g c = rw c.in-Five.is (answers_task _ _ c.five.ensures.done c.five.ensures.reads)

pub returns-in-FiveWorlds : goal.returns-in-FiveWorlds
returns-in-FiveWorlds g c = rw c.in-FiveWorlds.is c.five_worlds.ensures
