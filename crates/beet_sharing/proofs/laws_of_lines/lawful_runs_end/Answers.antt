use Rattle.beet_sharing.proofs.Rounds.{lawful-rounds}
use Rattle.beet_sharing.proofs.laws_of_lines.lawful_runs_end.Goals as goal

pub returns : goal.returns
returns c = lawful-rounds
