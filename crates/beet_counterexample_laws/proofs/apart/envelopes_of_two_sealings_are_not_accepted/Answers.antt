use Rattle.beet_counterexample_laws.proofs.TwoSealings.{not-accepted}
use Rattle.beet_counterexample_laws.proofs.apart.envelopes_of_two_sealings_are_not_accepted.Goals as goal

pub returns : goal.returns
returns c = not-accepted
