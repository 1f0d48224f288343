use Rattle.std.proofs.Common.{◌≡◌, ◌*◌, ap, length, subst, sym}
use Rattle.beet_field.specs.Trio.{member}
use Rattle.beet_field.specs.declared.point.Point.{Point}
use Rattle.beet_desk.specs.Counts.{count_in}
use Rattle.beet_load.specs.Loading.{AuctionWithInputs}
use Rattle.beet_run.specs.Runs.{EndsAuction, setup_with}
use Rattle.beet_job_watch.proofs.Watching.{tells-watched}
use Rattle.beet_job_watch.proofs.job.reply_for.Goals as goal

pub watch_auction-requires-clause-inputs : goal.watch_auction-requires-clause-inputs
watch_auction-requires-clause-inputs g c = λ lifetimes outlive.
    subst (λ (k : AuctionWithInputs). (i : Point) → length (member k.inputs i) ≡ 2 * k.grid.prices) (sym c.loaded.view_is)
    c.requires.inputs

pub returns-clause-tells : goal.returns-clause-tells
returns-clause-tells g c = λ read kept.
    let run = c.in_ok-ended.ended in
    let ends : EndsAuction c.args.loaded.grid c.args.loaded.inputs c.args.loaded.servers run.finish run.rounds =
    subst (λ (k : AuctionWithInputs). EndsAuction k.grid k.inputs k.servers run.finish run.rounds) c.loaded.view_is
    c.in_ok-ended.ensures.ends in
    let counts : (s : Point) → member run.counts s ≡ count_in (setup_with c.args.loaded.grid c.args.loaded.inputs c.args.loaded.servers)
    run.rounds =
    subst (λ (k : AuctionWithInputs). (s : Point) → member run.counts s ≡ count_in (setup_with k.grid k.inputs k.servers) run.rounds)
    c.loaded.view_is c.in_ok-ended.ensures.counts in
    rw (c.in_ok-watched_reply.ensures, ap (λ (k : AuctionWithInputs). k.grid) c.loaded.view_is)
    (sym (tells-watched c.args.loaded read run.finish run.rounds run.counts kept ends counts))
