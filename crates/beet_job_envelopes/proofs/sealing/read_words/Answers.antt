use Rattle.std.proofs.Common.{refl}
use Rattle.beet_errand.proofs.Frame.{bind, exits, given, passed, stopped, tested}
use Rattle.beet_job_envelopes.proofs.sealing.read_words.Goals as goal

pub returns-in_err-tape-clause-reads : goal.returns-in_err-tape-clause-reads
returns-in_err-tape-clause-reads g c = exits c.from_residual.ensures.1 (stopped (rw c.words_kept.ensures at c.in_err-tape.ensures.reads))

pub returns-in_err-check_words-clause-reads : goal.returns-in_err-check_words-clause-reads
returns-in_err-check_words-clause-reads g c =
    exits c.from_residual-in_err-check_words.ensures.1 (bind (rw c.words_kept.ensures at c.in_ok-tape.ensures.reads) (tested
    (rw c.auction_wants.ensures at c.in_err-check_words.ensures.tests)))

pub returns-clause-reads : goal.returns-clause-reads
returns-clause-reads g c = bind (rw c.words_kept.ensures at c.in_ok-tape.ensures.reads)
    (passed (rw c.auction_wants.ensures at c.in_ok-check_words.ensures.tests) (given refl))
