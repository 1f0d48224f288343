use Rattle.std.proofs.Common.{map, refl, string_bytes, sym, ◌∙◌}
use Rattle.beet_command.proofs.Named.{named_job, no_job}
use Rattle.beet_app.specs.Commands.{five_job_for}
use Rattle.beet_app.specs.Doing.{task_of}
use Rattle.beet_app.proofs.Tables.{among-five}
use Rattle.beet_app.proofs.five.do_named.Goals as goal

pub returns-in-Some : goal.returns-in-Some
returns-in-Some g c =
    named_job task_of _ (five_job_for c.in-Some.command) _ _ _
    (c.in-Some.ensures ∙ sym (among-five (map string_bytes c.args.words.now) c.requires)) c.do_job.ensures

pub returns-in-None : goal.returns-in-None
returns-in-None g c =
    (no_job task_of _ tt (c.in-None.ensures ∙ sym (among-five (map string_bytes c.args.words.now) c.requires)), refl)
