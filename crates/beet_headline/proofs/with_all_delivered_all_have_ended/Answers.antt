use Rattle.beet_auction.specs.Setups.{rounds_for}
use Rattle.beet_headline.proofs.Delivering.{to-the-end}
use Rattle.beet_headline.proofs.Standings.{all-ended}
use Rattle.beet_headline.proofs.with_all_delivered_all_have_ended.Goals as goal

pub returns-clause-ended : goal.returns-clause-ended
returns-clause-ended c = λ book words es b runs none. all-ended book words b runs es none

pub returns-clause-reached : goal.returns-clause-reached
returns-clause-reached c = λ book words es. to-the-end (rounds_for book words) es
