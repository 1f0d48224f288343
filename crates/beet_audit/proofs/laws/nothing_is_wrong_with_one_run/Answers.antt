use Rattle.beet_audit.proofs.OneRunFacts.{one-finds, one-from_right, right-from_one, tells-finds}
use Rattle.beet_audit.proofs.laws.nothing_is_wrong_with_one_run.Goals as goal

pub returns-clause-right : goal.returns-clause-right
returns-clause-right c = λ grid views limits elements. (one-from_right grid views limits elements, right-from_one grid views)

pub returns-clause-wrong : goal.returns-clause-wrong
returns-clause-wrong c = λ grid views fault found one. tells-finds grid views fault (right-from_one grid views one) found

pub returns-clause-first : goal.returns-clause-first
returns-clause-first c = λ grid views fault other found found'. one-finds grid views fault other found found'
