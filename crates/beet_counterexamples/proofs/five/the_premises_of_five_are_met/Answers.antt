use Rattle.beet_five_dealing.proofs.Zeros.{zeros-run}
use Rattle.beet_counterexamples.proofs.TwoOfFive.{agree-for-two, two-apart}
use Rattle.beet_counterexamples.proofs.five.the_premises_of_five_are_met.Goals as goal

pub returns-clause-words : goal.returns-clause-words
returns-clause-words c = zeros-run

pub returns-clause-agree : goal.returns-clause-agree
returns-clause-agree c = agree-for-two

pub returns-clause-apart : goal.returns-clause-apart
returns-clause-apart c = two-apart
