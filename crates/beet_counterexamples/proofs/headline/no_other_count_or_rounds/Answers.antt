use Rattle.beet_counterexamples.proofs.OtherEnds.{none-opened, other-count, other-rounds}
use Rattle.beet_counterexamples.proofs.headline.no_other_count_or_rounds.Goals as goal

pub returns-clause-count : goal.returns-clause-count
returns-clause-count c = λ book words test b runs. other-count book words b runs test

pub returns-clause-none : goal.returns-clause-none
returns-clause-none c = λ book words es s outcome b runs. none-opened book words b runs es s outcome

pub returns-clause-rounds : goal.returns-clause-rounds
returns-clause-rounds c = λ book words rounds b runs. other-rounds book words b runs rounds
