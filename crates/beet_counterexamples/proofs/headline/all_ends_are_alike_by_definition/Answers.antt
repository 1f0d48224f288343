use Rattle.beet_counterexamples.proofs.AlikeEnds.{ends-alike}
use Rattle.beet_counterexamples.proofs.headline.all_ends_are_alike_by_definition.Goals as goal

pub returns : goal.returns
returns c = ends-alike
