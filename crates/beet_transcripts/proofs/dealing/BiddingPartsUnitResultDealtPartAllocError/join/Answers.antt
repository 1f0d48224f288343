use Rattle.beet_transcripts.proofs.DealtPoints.{part-joined, same-prices}
use Rattle.beet_transcripts.proofs.dealing.BiddingPartsUnitResultDealtPartAllocError.join.Goals as goal

pub join_parts-requires : goal.join_parts-requires
join_parts-requires c = same-prices _ _ _ _ _ _ c.requires.7 c.requires.8

pub returns : goal.returns
returns c = λ from count more front front_left back back_left can _ few rest.
    let bidding = c.args.self.now in
    rw (part-joined bidding.bidders.now bidding.words.now from count more can.within can.all.paired)
    (c.join_parts.ensures bidding.grid.now bidding.whom _ _ few rest)
