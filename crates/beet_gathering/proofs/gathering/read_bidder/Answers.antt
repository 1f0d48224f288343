use Rattle.std.proofs.Common.{sym}
use Rattle.beet_errand.proofs.Frame.{bind, exits, given, stopped}
use Rattle.beet_gathering.proofs.gathering.read_bidder.Goals as goal

pub returns-in_err-one-clause-reads : goal.returns-in_err-one-clause-reads
returns-in_err-one-clause-reads g c = exits c.from_residual.ensures.1 (stopped (rw c.as_str.ensures at c.in_err-one.ensures.reads))

pub returns-in_err-two-clause-reads : goal.returns-in_err-two-clause-reads
returns-in_err-two-clause-reads g c =
    exits c.from_residual-in_err-two.ensures.1 (bind (rw c.as_str.ensures at c.in_ok-one.ensures.reads)
    (stopped (rw c.as_str-2.ensures at c.in_err-two.ensures.reads)))

pub returns-in_err-three-clause-reads : goal.returns-in_err-three-clause-reads
returns-in_err-three-clause-reads g c =
    exits c.from_residual-in_err-three.ensures.1
    (bind (rw c.as_str.ensures at c.in_ok-one.ensures.reads) (bind (rw c.as_str-2.ensures at c.in_ok-two.ensures.reads)
    (stopped (rw c.as_str-3.ensures at c.in_err-three.ensures.reads))))

pub returns-clause-reads : goal.returns-clause-reads
returns-clause-reads g c =
    bind (rw c.as_str.ensures at c.in_ok-one.ensures.reads) (bind (rw c.as_str-2.ensures at c.in_ok-two.ensures.reads)
    (bind (rw c.as_str-3.ensures at c.in_ok-three.ensures.reads) (given (sym c.of.ensures))))
