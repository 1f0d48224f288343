use Rattle.std.proofs.Common.{ap, refl}
use Rattle.beet_errand.proofs.Frame.{bind, exits, given, handed, stopped}
use Rattle.beet_job_audit.specs.Reading.{read_errand}
use Rattle.beet_job_audit.proofs.reading.read_views.Goals as goal

pub returns-in_err-grid : goal.returns-in_err-grid
unfolding read_errand
returns-in_err-grid g c = exits c.from_residual.ensures.1 (stopped c.in_err-grid.ensures)

pub returns-in_err-one : goal.returns-in_err-one
unfolding read_errand
returns-in_err-one g c = exits c.from_residual-in_err-one.ensures.1 (bind c.in_ok-grid.ensures (stopped c.in_err-one.ensures))

pub returns-in_err-one-2 : goal.returns-in_err-one-2
unfolding read_errand
returns-in_err-one-2 g c =
    exits c.from_residual-in_err-one-2.ensures.1 (bind c.in_ok-grid.ensures (bind c.in_ok-one.ensures
    (stopped (handed c.in_err-one-2.ensures c.read_transcript-2.ensures))))

pub returns-in_err-one-3 : goal.returns-in_err-one-3
unfolding read_errand
returns-in_err-one-3 g c =
    exits c.from_residual-in_err-one-3.ensures.1 (bind c.in_ok-grid.ensures (bind c.in_ok-one.ensures
    (bind (handed c.in_ok-one-2.ensures.1 c.read_transcript-2.ensures)
    (stopped (handed c.in_err-one-3.ensures c.read_transcript-3.ensures)))))

pub returns : goal.returns
unfolding read_errand
returns g c =
    bind c.in_ok-grid.ensures (bind c.in_ok-one.ensures (bind (handed c.in_ok-one-2.ensures.1 c.read_transcript-2.ensures)
    (bind (handed c.in_ok-one-3.ensures.1 c.read_transcript-3.ensures)
    (given (rw (ap (λ held. held.0) c.in_ok-one-3.ensures.0, ap (λ held. held.1) c.in_ok-one-3.ensures.0, c.in_ok-one-2.ensures.0) refl)))))
