use Rattle.beet_program_laws.proofs.Jobs.{opens}
use Rattle.beet_program_laws.proofs.what_open_says_is_what_was_sealed.Goals as goal

pub returns : goal.returns
returns c = λ files auction servers list call done. opens files call done.from done.code auction servers list done.runs
