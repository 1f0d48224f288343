use Rattle.beet_plan.proofs.AuctionRuns.{auction-run}
use Rattle.beet_search.proofs.laws.auction_law.Goals as goal

pub returns : goal.returns
returns c = auction-run
