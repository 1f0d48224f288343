use Rattle.std.proofs.Common.{◌≡◌, ◌*◌, ◌∙◌, ap, length, subst, sym}
use Rattle.beet_field.specs.Trio.{member}
use Rattle.beet_field.specs.declared.point.Point.{Point}
use Rattle.beet_load.specs.Loading.{AuctionWithInputs}
use Rattle.beet_run.specs.Outcomes.{outcome_answer}
use Rattle.beet_run.specs.Runs.{EndsAuction}
use Rattle.beet_run.proofs.BookRuns.{kept-many, tells-run}
use Rattle.beet_run.proofs.Ending.{has-ended-run, have-run}
use Rattle.beet_job_session.proofs.telling.run_lot.Goals as goal

pub start_servers-requires-clause-inputs : goal.start_servers-requires-clause-inputs
start_servers-requires-clause-inputs c =
    subst (λ (k : AuctionWithInputs). (i : Point) → length (member k.inputs i) ≡ 2 * k.grid.prices) (sym c.loaded.view_is)
    (kept-many c.args.loaded c.requires.0 c.requires.1)

pub end_of-finish-requires : goal.end_of-finish-requires
end_of-finish-requires c =
    let inside = c.loaded.inside in
    has-ended-run inside.grid inside.inputs inside.servers c.in_ok-cores.cores c.in_ok-cores.ensures.starts c.lockstep.result
    c.lockstep.ensures

pub returns-clause-tells : goal.returns-clause-tells
returns-clause-tells c = λ read kept.
    let inside = c.loaded.inside in
    let finish = c.end_of-finish.result.0 in
    let rounds = c.end_of-finish.result.1 in
    let ends : EndsAuction inside.grid inside.inputs inside.servers finish rounds =
    c.end_of-finish.ensures inside.grid inside.inputs inside.servers
    (have-run inside.grid inside.inputs inside.servers c.in_ok-cores.cores c.in_ok-cores.ensures.starts c.lockstep.result
    c.lockstep.ensures) in
    c.in_ok-outcome_reply.ensures ∙ ap (λ (k : AuctionWithInputs). outcome_answer k.grid finish rounds) c.loaded.view_is
    ∙ sym (tells-run c.args.loaded read finish rounds kept
    (subst (λ (k : AuctionWithInputs). EndsAuction k.grid k.inputs k.servers finish rounds) c.loaded.view_is ends))
