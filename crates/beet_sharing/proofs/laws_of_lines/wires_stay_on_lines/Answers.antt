use Rattle.beet_sharing.proofs.LinesLaw.{at-one}
use Rattle.beet_sharing.proofs.laws_of_lines.wires_stay_on_lines.Goals as goal

pub returns : goal.returns
returns c = at-one
