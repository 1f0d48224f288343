use Rattle.beet_transcripts.proofs.DealtPoints.{part-can}
use Rattle.beet_transcripts.proofs.dealing.BiddingPartsUnitResultDealtPartAllocError.in_order.Goals as goal

pub deal_in_order-requires-clause-can : goal.deal_in_order-requires-clause-can
deal_in_order-requires-clause-can c =
    let bidding = c.args.self.now in
    part-can bidding.bidders.now bidding.words.now bidding.grid.now c.args.from c.args.count c.requires
