use Rattle.beet_plan.specs.Auction.{auction_plan}
use Rattle.beet_search.proofs.script.AuctionScriptScript3.refill.Goals as goal

pub refill-requires : goal.refill-requires
refill-requires c = (auction_plan c.args.self.now, c.requires)

pub returns-clause-batch : goal.returns-clause-batch
returns-clause-batch c = c.refill.ensures.batch (auction_plan c.args.self.now) c.requires

pub returns-clause-place : goal.returns-clause-place
returns-clause-place c = c.refill.ensures.place (auction_plan c.args.self.now) c.requires
