use Rattle.std.proofs.Common.{refl}
use Rattle.beet_errand.proofs.Frame.{bind, exits, given, passed, stopped, tested}
use Rattle.beet_load.proofs.servers.read_server.Goals as goal

pub returns-in_err-words-clause-reads : goal.returns-in_err-words-clause-reads
returns-in_err-words-clause-reads g c = exits c.from_residual.ensures.1 (stopped c.in_err-words.ensures.reads)

pub returns-in_err-words-2-clause-reads : goal.returns-in_err-words-2-clause-reads
returns-in_err-words-2-clause-reads g c =
    exits c.from_residual-in_err-words-2.ensures.1 (bind c.in_ok-words.ensures.reads
    (tested (rw c.in_err-words-2.ensures at c.check_counts-checked.ensures.tests)))

pub returns-clause-reads : goal.returns-clause-reads
returns-clause-reads g c =
    bind c.in_ok-words.ensures.reads (passed (rw c.in_ok-words-2.ensures.1 at c.check_counts-checked.ensures.tests)
    (given (rw c.in_ok-words-2.ensures.0 refl)))
