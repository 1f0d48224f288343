use Rattle.std.proofs.Common.{◌≡◌, ◌*◌, length, subst, sym}
use Rattle.beet_field.specs.Trio.{member}
use Rattle.beet_field.specs.declared.point.Point.{Point}
use Rattle.beet_load.specs.Loading.{AuctionWithInputs, IsKeptOf}
use Rattle.beet_run.proofs.BookRuns.{kept-many}
use Rattle.beet_job_replay.proofs.LotsBegun.{has-begun, have-more}
use Rattle.beet_job_replay.proofs.beginning.BegunTakesLots.take.Goals as goal

pub start_servers-requires-clause-inputs : goal.start_servers-requires-clause-inputs
start_servers-requires-clause-inputs c =
    subst (λ (k : AuctionWithInputs). (i : Point) → length (member k.inputs i) ≡ 2 * k.grid.prices) (sym c.loaded.view_is)
    (kept-many c.args.loaded c.requires.0 c.requires.1)

pub returns-clause-taken : goal.returns-clause-taken
returns-clause-taken c = λ rows lots read taken next is_kept.
    let begun = c.loaded.inside in
    let inside : AuctionWithInputs = record { grid = begun.grid; servers = begun.servers; inputs = begun.inputs } in
    let kept : IsKeptOf inside read = subst (λ (k : AuctionWithInputs). IsKeptOf k read) (sym c.loaded.view_is) is_kept in
    let before = c.args.self.now in
    rw (c.in_ok-push.ensures.grids, c.in_ok-push.ensures.cores)
    (have-more before.grids.items before.cores.items lots inside.grid c.in_ok-cores.cores read taken
    (has-begun inside read c.in_ok-cores.cores kept c.in_ok-cores.ensures.starts))
