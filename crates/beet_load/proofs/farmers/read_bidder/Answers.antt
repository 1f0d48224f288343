use Rattle.std.proofs.Common.{refl}
use Rattle.beet_errand.proofs.Frame.{bind, exits, given, passed, stopped, tested}
use Rattle.beet_load.proofs.farmers.read_bidder.Goals as goal

pub returns-in_err-tape-clause-reads : goal.returns-in_err-tape-clause-reads
returns-in_err-tape-clause-reads g c =
    exits c.from_residual.ensures.1 (stopped (rw c.words_kept.ensures at c.in_err-tape.ensures.reads))

pub returns-in_err-check_words-clause-reads : goal.returns-in_err-check_words-clause-reads
returns-in_err-check_words-clause-reads g c =
    exits c.from_residual-in_err-check_words.ensures.1 (bind (rw c.words_kept.ensures at c.in_ok-tape.ensures.reads)
    (tested c.in_err-check_words.ensures.tests))

pub returns-clause-reads : goal.returns-clause-reads
returns-clause-reads g c =
    bind (rw c.words_kept.ensures at c.in_ok-tape.ensures.reads) (passed c.in_ok-check_words.ensures.tests (given refl))

pub returns-clause-fresh : goal.returns-clause-fresh
returns-clause-fresh g c = c.in_ok-tape.ensures.fresh

pub returns-clause-enough : goal.returns-clause-enough
returns-clause-enough g c = c.in_ok-check_words.ensures.enough

pub returns-clause-cut : goal.returns-clause-cut
returns-clause-cut g c = rw c.words_kept.ensures at c.in_ok-tape.ensures.cut
