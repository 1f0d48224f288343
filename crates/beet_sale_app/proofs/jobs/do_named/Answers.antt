use Rattle.std.proofs.Common.{refl}
use Rattle.beet_command.proofs.Named.{named_job, no_job}
use Rattle.beet_pair_words.specs.Commands.{job_for}
use Rattle.beet_sale_app.specs.Commands.{errand_for}
use Rattle.beet_sale_app.specs.Doing.{task_of}
use Rattle.beet_sale_app.proofs.jobs.do_named.Goals as goal

pub returns-in-Some : goal.returns-in-Some
returns-in-Some g c = named_job task_of _ (job_for errand_for c.in-Some.command) _ _ _ c.in-Some.ensures c.do_job.ensures

pub returns-in-None : goal.returns-in-None
returns-in-None g c = (no_job task_of _ tt c.in-None.ensures, refl)
