use Rattle.beet_sharing.proofs.Rounds.{rounds-within}
use Rattle.beet_sharing.proofs.laws_of_lines.rounds_stay_within.Goals as goal

pub returns : goal.returns
returns c = rounds-within
