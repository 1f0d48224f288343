use Rattle.beet_run.proofs.Ending.{has-ended-run}
use Rattle.beet_auction_run.proofs.run_auction.Goals as goal

pub end_of-requires : goal.end_of-requires
end_of-requires g c =
    let ran = c.in_ok-ended.ensures.ended in
    has-ended-run c.args.grid.now c.args.inputs c.args.words ran.start ran.starts c.in_ok-ended.ended ran.ended

pub returns-clause-ends : goal.returns-clause-ends
returns-clause-ends g c = c.end_of.ensures c.args.grid.now c.args.inputs c.args.words c.in_ok-ended.ensures.ended
