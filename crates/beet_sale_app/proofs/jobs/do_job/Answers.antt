use Rattle.beet_errand.proofs.Tasks.{answers_task}
use Rattle.beet_sale_app.proofs.jobs.do_job.Goals as goal

pub returns-in-Own : goal.returns-in-Own
returns-in-Own g c = rw c.in-Own.is (answers_task _ _ c.sale.ensures.done c.sale.ensures.reads)

pub returns-in-Pair : goal.returns-in-Pair
returns-in-Pair g c = rw c.in-Pair.is c.pair.ensures
