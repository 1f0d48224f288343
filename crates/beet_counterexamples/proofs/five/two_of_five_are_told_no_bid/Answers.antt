use Rattle.beet_counterexamples.proofs.TwoOfFive.{bids-alone, see-alone}
use Rattle.beet_counterexamples.proofs.five.two_of_five_are_told_no_bid.Goals as goal

pub returns-clause-books : goal.returns-clause-books
returns-clause-books c = see-alone

pub returns-clause-bids : goal.returns-clause-bids
returns-clause-bids c = bids-alone
