use Rattle.beet_counterexamples.proofs.OtherEnvelopes.{other-places, other-rest}
use Rattle.beet_counterexamples.proofs.headline.without_conditions_other_words_seal_the_same.Goals as goal

pub returns-clause-places : goal.returns-clause-places
returns-clause-places c = other-places

pub returns-clause-rest : goal.returns-clause-rest
returns-clause-rest c = λ grid s curve words g can. other-rest grid s curve g words can
