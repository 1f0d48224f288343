use Rattle.beet_program_laws.proofs.Trials.{tries}
use Rattle.beet_program_laws.proofs.what_trial_says_is_what_servers_open.Goals as goal

pub returns : goal.returns
returns c = λ files bidders prices call done. tries files call done.from done.code bidders prices done.runs
