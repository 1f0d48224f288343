use Rattle.beet_program_laws.proofs.Fives.{clears-among-five}
use Rattle.beet_program_laws.proofs.what_five_says_is_what_five_servers_open.Goals as goal

pub returns : goal.returns
returns c = λ files auction servers list call done. clears-among-five files call done.from done.code auction servers list done.runs
