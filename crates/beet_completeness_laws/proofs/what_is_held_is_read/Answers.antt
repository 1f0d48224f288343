use Rattle.beet_app_laws.proofs.Reading.{reads-to}
use Rattle.beet_completeness_laws.proofs.what_is_held_is_read.Goals as goal

pub returns : goal.returns
returns c = λ kind files name limit grammar value h. reads-to files name limit grammar value h
