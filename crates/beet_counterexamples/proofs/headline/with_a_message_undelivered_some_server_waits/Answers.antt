use Rattle.beet_counterexamples.proofs.OtherEnds.{all-wait, none-waits}
use Rattle.beet_counterexamples.proofs.headline.with_a_message_undelivered_some_server_waits.Goals as goal

pub returns-clause-start : goal.returns-clause-start
returns-clause-start c = λ book words s b runs. all-wait book words b runs s

pub returns-clause-waits : goal.returns-clause-waits
returns-clause-waits c = λ book words es b runs. none-waits book words b runs es
