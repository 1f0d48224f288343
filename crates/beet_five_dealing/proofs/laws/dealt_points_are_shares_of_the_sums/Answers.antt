use Rattle.beet_five_dealing.proofs.Shares.{book-shared}
use Rattle.beet_five_dealing.proofs.laws.dealt_points_are_shares_of_the_sums.Goals as goal

pub returns : goal.returns
returns c = λ book words is can. book-shared book words is can.count
