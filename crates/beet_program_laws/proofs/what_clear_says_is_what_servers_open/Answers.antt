use Rattle.beet_program_laws.proofs.Jobs.{clears}
use Rattle.beet_program_laws.proofs.what_clear_says_is_what_servers_open.Goals as goal

pub returns : goal.returns
returns c = λ files auction servers list call done. clears files call done.from done.code auction servers list done.runs
