use Rattle.beet_linear_sharing.specs.Schemes.{five_servers}
use Rattle.beet_linear_sharing.proofs.AtOne.{same-rounds}
use Rattle.beet_linear_sharing.proofs.Arithmetic.{five-laws}
use Rattle.beet_linear_sharing.proofs.laws_of_sharing.rounds_are_the_clear_runs.Goals as goal

pub returns : goal.returns
returns c = λ o values are. same-rounds five_servers five-laws o values are
