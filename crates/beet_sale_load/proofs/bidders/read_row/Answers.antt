use Rattle.std.proofs.Common.{ℕ, List, sym}
use Rattle.beet_errand.specs.Errands.{gives}
use Rattle.beet_errand.proofs.Frame.{exits, shown, stopped}
use Rattle.beet_sale_load.proofs.bidders.read_row.Goals as goal

pub returns-in_err-tape-clause-reads : goal.returns-in_err-tape-clause-reads
returns-in_err-tape-clause-reads g c =
    exits c.from_residual.ensures.1 (stopped {rest = λ (words : List ℕ). gives words} c.in_err-tape.ensures.reads)

pub returns-clause-reads : goal.returns-clause-reads
returns-clause-reads g c = shown c.in_ok-tape.ensures.reads (sym c.into_words.ensures)

pub returns-clause-deals : goal.returns-clause-deals
returns-clause-deals g c = rw c.into_words.ensures (record { enough = c.in_ok-tape.ensures.enough; kept = c.in_ok-tape.ensures.cut })
