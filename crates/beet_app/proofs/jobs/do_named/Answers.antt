use Rattle.std.proofs.Common.{map, refl, string_bytes, sym, ◌∙◌}
use Rattle.beet_command.proofs.Named.{named_job, no_job}
use Rattle.beet_app.specs.Commands.{job_for}
use Rattle.beet_app.specs.Doing.{task_of}
use Rattle.beet_app.proofs.Tables.{among-three}
use Rattle.beet_app.proofs.jobs.do_named.Goals as goal

pub returns-in-Some : goal.returns-in-Some
returns-in-Some g c =
    named_job task_of _ (job_for c.in-Some.command) _ _ _
    (c.in-Some.ensures.job ∙ sym (among-three (map string_bytes c.args.words.now) c.requires)) c.do_job.ensures

pub returns-in-None : goal.returns-in-None
returns-in-None g c =
    (no_job task_of _ tt (c.in-None.ensures.job ∙ sym (among-three (map string_bytes c.args.words.now) c.requires)), refl)

pub do_job-requires-clause-sizes : goal.do_job-requires-clause-sizes
do_job-requires-clause-sizes g c κs within = c.in-Some.ensures.sizes
