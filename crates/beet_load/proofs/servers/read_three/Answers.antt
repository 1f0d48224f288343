use Rattle.std.proofs.Common.{ap, refl}
use Rattle.beet_errand.proofs.Frame.{bind, exits, given, handed, stopped}
use Rattle.beet_load.proofs.servers.read_three.Goals as goal

pub returns-in_err-one-clause-reads : goal.returns-in_err-one-clause-reads
returns-in_err-one-clause-reads g c = exits c.from_residual.ensures.1 (stopped c.in_err-one.ensures.reads)

pub returns-in_err-one-2-clause-reads : goal.returns-in_err-one-2-clause-reads
returns-in_err-one-2-clause-reads g c =
    exits c.from_residual-in_err-one-2.ensures.1
    (bind c.in_ok-one.ensures.reads (stopped (handed c.in_err-one-2.ensures c.read_server-2.ensures.reads)))

pub returns-in_err-one-3-clause-reads : goal.returns-in_err-one-3-clause-reads
returns-in_err-one-3-clause-reads g c =
    exits c.from_residual-in_err-one-3.ensures.1
    (bind c.in_ok-one.ensures.reads (bind (handed c.in_ok-one-2.ensures.1 c.read_server-2.ensures.reads)
    (stopped (handed c.in_err-one-3.ensures c.read_server-3.ensures.reads))))

pub returns-clause-reads : goal.returns-clause-reads
returns-clause-reads g c =
    bind c.in_ok-one.ensures.reads (bind (handed c.in_ok-one-2.ensures.1 c.read_server-2.ensures.reads)
    (bind (handed c.in_ok-one-3.ensures.1 c.read_server-3.ensures.reads)
    (given (rw (ap (λ held. held.0) c.in_ok-one-3.ensures.0, ap (λ held. held.1) c.in_ok-one-3.ensures.0, c.in_ok-one-2.ensures.0) refl))))
