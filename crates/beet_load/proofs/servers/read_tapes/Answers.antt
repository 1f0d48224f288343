use Rattle.std.proofs.Common.{refl}
use Rattle.beet_errand.proofs.Frame.{bind, exits, given, stopped}
use Rattle.beet_load.proofs.servers.read_tapes.Goals as goal

pub returns-in_err-coefficients-clause-reads : goal.returns-in_err-coefficients-clause-reads
returns-in_err-coefficients-clause-reads g c =
    exits c.from_residual.ensures.1 (stopped (rw c.coefficients_kept.ensures at c.in_err-coefficients.ensures.reads))

pub returns-in_err-masks-clause-reads : goal.returns-in_err-masks-clause-reads
returns-in_err-masks-clause-reads g c =
    exits c.from_residual-in_err-masks.ensures.1 (bind (rw c.coefficients_kept.ensures at c.in_ok-coefficients.ensures.reads)
    (stopped (rw c.masks.ensures at c.in_err-masks.ensures.reads)))

pub returns-clause-reads : goal.returns-clause-reads
returns-clause-reads g c =
    bind (rw c.coefficients_kept.ensures at c.in_ok-coefficients.ensures.reads)
    (bind (rw c.masks.ensures at c.in_ok-masks.ensures.reads) (given refl))
