use Rattle.beet_program_laws.proofs.Watching.{watches}
use Rattle.beet_program_laws.proofs.what_watch_counts_is_the_run.Goals as goal

pub returns : goal.returns
returns c = λ files auction servers list call done. watches files call done.from done.code auction servers list done.runs
