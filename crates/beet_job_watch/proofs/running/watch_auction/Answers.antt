use Rattle.std.proofs.Common.{◌<◌, ◌*◌, ◌^◌, sym, subst}
use Rattle.beet_field.specs.declared.point.Point.TheVariants.{One}
use Rattle.beet_plan.specs.Auction.{Auction, most_rounds}
use Rattle.beet_run.proofs.Ending.{ends-auction, has-ended-run}
use Rattle.beet_job_watch.proofs.Watching.{few-rounds, watched-counts}
use Rattle.beet_job_watch.proofs.running.watch_auction.Goals as goal

pub run_watched-requires-clause-few : goal.run_watched-requires-clause-few
run_watched-requires-clause-few g c = λ lifetimes outlive.
    subst (λ (a : Auction). 3 * most_rounds a < 2 ^ 31) (sym (c.in_ok-cores.ensures.starts.script One))
    (few-rounds c.args.grid.now c.prices-prices.ensures.limits)

pub finish_at-finish-requires : goal.finish_at-finish-requires
finish_at-finish-requires g c =
    has-ended-run c.args.grid.now c.args.inputs c.args.words c.in_ok-cores.cores c.in_ok-cores.ensures.starts
    c.in_ok-watched.watched.cores c.in_ok-watched.ensures.cores

pub returns-clause-ends : goal.returns-clause-ends
returns-clause-ends g c =
    ends-auction c.args.grid.now c.args.inputs c.args.words c.in_ok-cores.cores c.in_ok-cores.ensures.starts
    c.in_ok-watched.watched.cores c.in_ok-watched.ensures.cores c.finish_at-finish.result c.round-rounds.result
    c.finish_at-finish.ensures c.round-rounds.ensures

pub returns-clause-counts : goal.returns-clause-counts
returns-clause-counts g c = λ s.
    watched-counts c.args.grid.now c.args.inputs c.args.words c.in_ok-cores.cores c.in_ok-watched.watched.cores
    c.in_ok-watched.watched.counts c.round-rounds.result c.in_ok-cores.ensures.starts c.in_ok-watched.ensures.cores
    c.in_ok-watched.ensures.counts c.round-rounds.ensures s
