use Rattle.beet_auction.proofs.Ends.{book-ends}
use Rattle.beet_auction.proofs.runs_end_with_the_outcome.Goals as goal

pub returns : goal.returns
returns c = book-ends
