use Rattle.beet_five_auction.proofs.FiveEnds.{book-ends-among}
use Rattle.beet_five_auction.proofs.five_runs_end_with_the_outcome.Goals as goal

pub returns : goal.returns
returns c = book-ends-among
