use Rattle.beet_program_laws.proofs.Jobs.{records}
use Rattle.beet_program_laws.proofs.what_record_puts_is_what_servers_see.Goals as goal

pub returns : goal.returns
returns c = λ files auction servers list out call done.
    records files call done.from done.code auction servers list out done.runs
