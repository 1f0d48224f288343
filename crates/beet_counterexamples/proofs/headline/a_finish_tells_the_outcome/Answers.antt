use Rattle.beet_counterexamples.proofs.Finishes.{one-outcome}
use Rattle.beet_counterexamples.proofs.headline.a_finish_tells_the_outcome.Goals as goal

pub returns : goal.returns
returns c = one-outcome
