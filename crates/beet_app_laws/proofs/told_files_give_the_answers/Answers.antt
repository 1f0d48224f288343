use Rattle.beet_app_laws.proofs.Led.{told-from}
use Rattle.beet_app_laws.proofs.told_files_give_the_answers.Goals as goal

pub returns : goal.returns
returns c = told-from
