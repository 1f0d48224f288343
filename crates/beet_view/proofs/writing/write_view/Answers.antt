use Rattle.std.proofs.Common.{length, ap, ◌∙◌, arith}
use Rattle.beet_view.specs.Transcripts.{view_in}
use Rattle.beet_view.proofs.ViewAgain.{view_in-view}
use Rattle.beet_view.proofs.ViewLength.{view_bytes-short}
use Rattle.beet_view.proofs.writing.write_view.Goals as goal

pub returns-clause-again : goal.returns-clause-again
returns-clause-again c = λ fits.
    let wrote = c.in_ok-push_view.ensures in
    ap view_in wrote.bytes ∙ view_in-view c.args.view.now wrote.view fits wrote.numbers

pub returns-clause-short : goal.returns-clause-short
returns-clause-short c = λ fits.
    let wrote = c.in_ok-push_view.ensures in
    omega (arith, ap length wrote.bytes, view_bytes-short c.args.view.now wrote.numbers.grid wrote.view fits)
