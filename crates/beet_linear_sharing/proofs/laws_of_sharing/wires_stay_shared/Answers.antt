use Rattle.beet_linear_sharing.specs.Schemes.{five_servers}
use Rattle.beet_linear_sharing.proofs.AtOne.{at-one}
use Rattle.beet_linear_sharing.proofs.Arithmetic.{five-laws}
use Rattle.beet_linear_sharing.proofs.laws_of_sharing.wires_stay_shared.Goals as goal

pub returns : goal.returns
returns c = λ o values are t. at-one five_servers five-laws o values are t
