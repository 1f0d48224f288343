use Rattle.std.proofs.Common.{refl, subst}
use Rattle.beet_bids.specs.Curves.{IsCurve}
use Rattle.beet_errand.proofs.Frame.{bind, exits, given, stopped}
use Rattle.beet_load.proofs.farmers.read_farmer.Goals as goal

pub returns-in_err-curve-clause-reads : goal.returns-in_err-curve-clause-reads
returns-in_err-curve-clause-reads g c = exits c.from_residual.ensures.1 (stopped (rw c.as_str.ensures at c.in_err-curve.ensures.reads))

pub returns-in_err-tape-clause-reads : goal.returns-in_err-tape-clause-reads
returns-in_err-tape-clause-reads g c =
    exits c.from_residual-in_err-tape.ensures.1
    (bind (rw c.as_str.ensures at c.in_ok-curve.ensures.reads) (stopped c.in_err-tape.ensures.reads))

pub returns-clause-reads : goal.returns-clause-reads
returns-clause-reads g c =
    bind (rw c.as_str.ensures at c.in_ok-curve.ensures.reads) (bind c.in_ok-tape.ensures.reads (given refl))

pub returns-clause-of_grid : goal.returns-clause-of_grid
returns-clause-of_grid g c = c.in_ok-curve.ensures.of_grid

pub returns-clause-curve : goal.returns-clause-curve
returns-clause-curve g c = subst (λ curve. IsCurve curve) c.curve.view_is c.curve.invariant

pub returns-clause-fresh : goal.returns-clause-fresh
returns-clause-fresh g c = c.in_ok-tape.ensures.fresh

pub returns-clause-enough : goal.returns-clause-enough
returns-clause-enough g c = c.in_ok-tape.ensures.enough

pub returns-clause-cut : goal.returns-clause-cut
returns-clause-cut g c = c.in_ok-tape.ensures.cut
