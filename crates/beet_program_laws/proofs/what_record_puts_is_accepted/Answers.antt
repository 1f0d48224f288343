use Rattle.beet_program_laws.proofs.Accepted.{accepts}
use Rattle.beet_program_laws.proofs.what_record_puts_is_accepted.Goals as goal

pub returns : goal.returns
returns c = λ files auction servers list out call done.
    accepts files call done.from done.code auction servers list out done.runs
