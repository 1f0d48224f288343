use Rattle.beet_errand.proofs.Frame.{bind, exits, stopped}
use Rattle.beet_job_envelopes.specs.Seal.{seal_job}
use Rattle.beet_job_envelopes.proofs.sealing.seal_bid.Goals as goal

pub returns-in_err-grid-clause-reads : goal.returns-in_err-grid-clause-reads
unfolding seal_job
returns-in_err-grid-clause-reads g c = exits c.from_residual.ensures.1 (stopped c.in_err-grid.ensures)

pub returns-in_err-curve-clause-reads : goal.returns-in_err-curve-clause-reads
unfolding seal_job
returns-in_err-curve-clause-reads g c =
    exits c.from_residual-in_err-curve.ensures.1 (bind c.in_ok-grid.ensures (stopped c.in_err-curve.ensures.reads))

pub returns-clause-reads : goal.returns-clause-reads
unfolding seal_job
returns-clause-reads g c = bind c.in_ok-grid.ensures (bind c.in_ok-curve.ensures.reads c.seal_curve-reply.ensures.reads)

pub seal_curve-reply-requires : goal.seal_curve-reply-requires
seal_curve-reply-requires g c = c.in_ok-curve.ensures.of_grid

pub returns-clause-done : goal.returns-clause-done
returns-clause-done g c = c.seal_curve-reply.ensures.done
