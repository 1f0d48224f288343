use Rattle.beet_program_laws.proofs.Jobs.{rehearses}
use Rattle.beet_program_laws.proofs.what_rehearse_says_is_how_servers_stand.Goals as goal

pub returns : goal.returns
returns c = λ files auction servers list schedule call done.
    rehearses files call done.from done.code auction servers list schedule done.runs
