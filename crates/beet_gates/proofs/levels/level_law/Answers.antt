use Rattle.beet_gates.proofs.Pairs.{paired-or-carried}
use Rattle.beet_gates.proofs.levels.level_law.Goals as goal

pub returns : goal.returns
returns c = paired-or-carried
