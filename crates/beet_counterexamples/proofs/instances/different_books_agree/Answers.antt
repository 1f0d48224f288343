use Rattle.std.proofs.Common.{refl}
use Rattle.beet_counterexamples.proofs.TwoBooks.{agree, apart, different}
use Rattle.beet_counterexamples.proofs.instances.different_books_agree.Goals as goal

pub returns-clause-five : goal.returns-clause-five
returns-clause-five c = refl

pub returns-clause-seven : goal.returns-clause-seven
returns-clause-seven c = refl

pub returns-clause-four : goal.returns-clause-four
returns-clause-four c = refl

pub returns-clause-agree : goal.returns-clause-agree
returns-clause-agree c = agree

pub returns-clause-different : goal.returns-clause-different
returns-clause-different c = different

pub returns-clause-apart : goal.returns-clause-apart
returns-clause-apart c = apart
