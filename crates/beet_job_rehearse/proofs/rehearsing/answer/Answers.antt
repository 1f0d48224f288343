use Rattle.std.proofs.Common.{◌≡◌, ◌*◌, ap, length, subst, sym}
use Rattle.std.proofs.lemmas.Result.{err_from_is_err_and}
use Rattle.beet_field.specs.Trio.{member}
use Rattle.beet_field.specs.declared.point.Point.{Point}
use Rattle.beet_load.specs.Loading.{AuctionWithInputs}
use Rattle.beet_world.specs.Worlds.{named_in}
use Rattle.beet_job_rehearse.specs.Rehearsing.{Rehearses}
use Rattle.beet_job_rehearse.proofs.JobEnds.{rehearsal-done, tells}
use Rattle.beet_job_rehearse.proofs.rehearsing.answer.Goals as goal

pub play-requires-clause-inputs : goal.play-requires-clause-inputs
play-requires-clause-inputs c =
    subst (λ (k : AuctionWithInputs). (i : Point) → length (member k.inputs i) ≡ 2 * k.grid.prices) (sym c.loaded.view_is) c.requires

pub returns-in_err-rehearsal-clause-memory : goal.returns-in_err-rehearsal-clause-memory
returns-in_err-rehearsal-clause-memory c =
    let p = err_from_is_err_and c.from_residual.result c.from_residual.ensures.1 in
    rw (p.1, p.2) c.in_err-rehearsal.ensures.memory

pub returns-clause-tells : goal.returns-clause-tells
returns-clause-tells c = λ read kept.
    let schedule = c.args.schedule.now in
    let found = c.in_ok-rehearsal.rehearsal in
    let rehearses : Rehearses c.args.loaded.grid c.args.loaded.inputs c.args.loaded.servers (named_in schedule) found =
    subst (λ (k : AuctionWithInputs). Rehearses k.grid k.inputs k.servers (named_in schedule) found) c.loaded.view_is
    c.in_ok-rehearsal.ensures.rehearses in
    rw (c.in_ok-rehearsal_reply.ensures, ap (λ (k : AuctionWithInputs). k.grid) c.loaded.view_is)
    (sym (tells c.args.loaded read schedule found kept rehearses))

pub returns-clause-done : goal.returns-clause-done
returns-clause-done c = rw (ap (λ answer. answer.status) c.in_ok-rehearsal_reply.ensures) (rehearsal-done c.in_ok-rehearsal.rehearsal)
