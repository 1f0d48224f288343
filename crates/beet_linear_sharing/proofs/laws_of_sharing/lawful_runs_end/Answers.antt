use Rattle.beet_linear_sharing.specs.Schemes.{five_servers}
use Rattle.beet_linear_sharing.proofs.Ends.{lawful-rounds}
use Rattle.beet_linear_sharing.proofs.laws_of_sharing.lawful_runs_end.Goals as goal

pub returns : goal.returns
returns c = λ o bounds most inputs law. lawful-rounds five_servers o bounds 5 inputs most law
