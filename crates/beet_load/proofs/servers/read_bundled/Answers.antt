use Rattle.std.proofs.Common.{◌∙◌, ap, refl}
use Rattle.beet_errand.proofs.Frame.{bind, exits, given, no_memory, passed, stopped, tested}
use Rattle.beet_load.proofs.Cuts.{bundle_cut}
use Rattle.beet_load.proofs.ServerSteps.{cut_tested}
use Rattle.beet_load.proofs.servers.read_bundled.Goals as goal

pub returns-in_err-words-clause-reads : goal.returns-in_err-words-clause-reads
returns-in_err-words-clause-reads g c = exits c.from_residual.ensures.1 (stopped (rw c.as_str.ensures at c.in_err-words.ensures))

pub returns-in_err-words-2-clause-reads : goal.returns-in_err-words-2-clause-reads
returns-in_err-words-2-clause-reads g c =
    exits c.from_residual-in_err-words-2.ensures.1 (bind (rw c.as_str.ensures at c.in_ok-words.ensures) no_memory)

pub returns-in_err-words-3-clause-reads : goal.returns-in_err-words-3-clause-reads
returns-in_err-words-3-clause-reads g c =
    exits c.from_residual-in_err-words-3.ensures.1 (bind (rw c.as_str.ensures at c.in_ok-words.ensures)
    (tested (cut_tested c.args.wanted.now (ap (λ all. all.servers) (c.words.view_is ∙ c.in_ok-words-2.ensures)) c.in_err-words-3.ensures
    c.check_three-checked.ensures.tests)))

pub returns-clause-reads : goal.returns-clause-reads
returns-clause-reads g c =
    bind (rw c.as_str.ensures at c.in_ok-words.ensures)
    (passed (cut_tested c.args.wanted.now (ap (λ all. all.servers) (c.words.view_is ∙ c.in_ok-words-2.ensures)) c.in_ok-words-3.ensures.1
    c.check_three-checked.ensures.tests)
    (given (rw (c.in_ok-words-3.ensures.0, c.in_ok-words-2.ensures) refl)))

pub returns-clause-cut : goal.returns-clause-cut
returns-clause-cut g c = rw (c.in_ok-words-3.ensures.0, c.in_ok-words-2.ensures) (bundle_cut c.args.wanted.now.counts c.in_ok-words.words)
