use Rattle.beet_sharing.proofs.LinesLaw.{same-rounds}
use Rattle.beet_sharing.proofs.laws_of_lines.rounds_are_the_clear_runs.Goals as goal

pub returns : goal.returns
returns c = same-rounds
