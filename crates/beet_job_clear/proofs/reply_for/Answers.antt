use Rattle.std.proofs.Common.{◌≡◌, ◌*◌, ap, length, subst, sym}
use Rattle.beet_field.specs.Trio.{member}
use Rattle.beet_field.specs.declared.point.Point.{Point}
use Rattle.beet_load.specs.Loading.{AuctionWithInputs}
use Rattle.beet_run.specs.Runs.{EndsAuction}
use Rattle.beet_run.proofs.BookRuns.{tells-run}
use Rattle.beet_job_clear.proofs.reply_for.Goals as goal

pub run_auction-requires-clause-inputs : goal.run_auction-requires-clause-inputs
run_auction-requires-clause-inputs g c = λ lifetimes outlive.
    subst (λ (k : AuctionWithInputs). (i : Point) → length (member k.inputs i) ≡ 2 * k.grid.prices) (sym c.loaded.view_is)
    c.requires.inputs

pub returns-clause-tells : goal.returns-clause-tells
returns-clause-tells g c = λ read kept.
    let finish = c.in_ok-finish.finish in
    let rounds = c.in_ok-finish.rounds in
    let ends : EndsAuction c.args.loaded.grid c.args.loaded.inputs c.args.loaded.servers finish rounds =
    subst (λ (k : AuctionWithInputs). EndsAuction k.grid k.inputs k.servers finish rounds) c.loaded.view_is c.in_ok-finish.ensures.ends in
    rw (c.in_ok-outcome_reply.ensures, ap (λ (k : AuctionWithInputs). k.grid) c.loaded.view_is)
    (sym (tells-run c.args.loaded read finish rounds kept ends))
