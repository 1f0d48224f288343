use Rattle.std.proofs.Common.{subst, sym, true≢false, IsSome}
use Rattle.beet_plan.specs.Auction.{auction_batch}
use Rattle.beet_gates.specs.Ends.{TellsEnd}
use Rattle.beet_run.proofs.Ending.{named}
use Rattle.beet_run.proofs.running.finish_at.Goals as goal

pub unreachable-requires : goal.unreachable-requires
unreachable-requires c =
    let tells =
    subst (λ opened. TellsEnd (auction_batch c.args.core.now.script) opened c.finish.result) c.opened.ensures
    (subst (λ script. TellsEnd (auction_batch script) c.opened.result.now c.finish.result) c.script.ensures c.finish.ensures.ended) in
    let is : IsSome c.finish.result = named c.args.core.now c.finish.result c.requires tells in
    true≢false (sym (subst IsSome c.in-None.is is))
