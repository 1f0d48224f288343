use Rattle.std.proofs.Common.{[], ap, length, map, sym, ◌∙◌}
use Rattle.std.specs.Prelude.{ℕ, List}
use Rattle.beet_book.specs.declared.sources.Servers.{Servers}
use Rattle.beet_errand.proofs.Frame.{bind, bound, exits, given, handed, stopped}
use Rattle.beet_errand.specs.Errands.{Step, gives, ◌>>=◌}
use Rattle.beet_lot_files.specs.declared.session_file.LotRow.{LotRow}
use Rattle.beet_lot_load.specs.Lots.{each_row}
use Rattle.beet_job_session_pair.specs.Reading.{Both, books_errand, both_errand, next_limited}
use Rattle.beet_job_session_pair.proofs.KeptLots.{both-count, both-few, both-is, both-run}
use Rattle.beet_job_session_pair.proofs.reading.read_both.Goals as goal

-- what comes after the rows and the seeds
abbrev rest : List ℕ → List LotRow × Servers → Step Both
rest second read =
    each_row (next_limited read.1) [] read.0 >>= (λ limited. books_errand second
    >>= (λ seconds. gives (record { rows = read.0; lots = map (λ one. one.lot) limited; seconds = seconds })))

pub returns-in_err-rows-clause-reads : goal.returns-in_err-rows-clause-reads
unfolding both_errand
returns-in_err-rows-clause-reads g c = exits c.from_residual.ensures.1 (stopped {rest = rest c.args.second.now} c.in_err-rows.ensures)

pub returns-in_err-rows-2-clause-reads : goal.returns-in_err-rows-2-clause-reads
unfolding both_errand
returns-in_err-rows-2-clause-reads g c =
    exits c.from_residual-in_err-rows-2.ensures.1
    (bind {rest = rest c.args.second.now} c.in_ok-rows.ensures
    (stopped (handed c.in_err-rows-2.ensures (rw c.rows.ensures.lots at c.read_wholes-lots.ensures.reads))))

pub returns-in_err-rows-3-clause-reads : goal.returns-in_err-rows-3-clause-reads
unfolding both_errand
returns-in_err-rows-3-clause-reads g c =
    exits c.from_residual-in_err-rows-3.ensures.1
    (bind {rest = rest c.args.second.now} c.in_ok-rows.ensures
    (bound (handed c.in_ok-rows-2.ensures.1 (rw c.rows.ensures.lots at c.read_wholes-lots.ensures.reads))
    (λ read kept. stopped (handed c.in_err-rows-3.ensures c.read_second.ensures.reads))))

pub returns-clause-reads : goal.returns-clause-reads
unfolding both_errand
returns-clause-reads g c =
    bind {rest = rest c.args.second.now} c.in_ok-rows.ensures
    (bound (handed c.in_ok-rows-2.ensures.1 (rw c.rows.ensures.lots at c.read_wholes-lots.ensures.reads))
    (λ read kept. bind (handed c.in_ok-rows-3.ensures.1 c.read_second.ensures.reads)
    (given (both-is _ _ _ _ _ read _ c.in_ok-rows-2.ensures.0 c.in_ok-rows-3.ensures.0 kept))))

pub returns-clause-runs : goal.returns-clause-runs
returns-clause-runs g c = both-run _ _ _ _ c.in_ok-rows-3.ensures.0 (rw c.in_ok-rows-2.ensures.1 at c.read_wholes-lots.ensures.runs)

pub returns-clause-count : goal.returns-clause-count
returns-clause-count g c =
    both-count _ _ _ _ c.in_ok-rows-3.ensures.0
    (rw (c.in_ok-rows-2.ensures.1, c.rows.ensures.lots) at c.read_wholes-lots.ensures.count ∙ ap length (sym c.in_ok-rows-2.ensures.0))

pub returns-clause-few : goal.returns-clause-few
returns-clause-few g c =
    both-few _ _ _ _ c.in_ok-rows-3.ensures.0 (rw (c.rows.ensures.lots, sym c.in_ok-rows-2.ensures.0) at c.rows.ensures.few)

pub returns-clause-few_seconds : goal.returns-clause-few_seconds
returns-clause-few_seconds g c = rw c.in_ok-rows-3.ensures.1 at c.read_second.ensures.few
