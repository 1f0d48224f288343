use Rattle.std.proofs.Common.{length, sym}
use Rattle.std.specs.Prelude.{ℕ, List}
use Rattle.beet_book.specs.declared.sources.Servers.{Servers}
use Rattle.beet_errand.proofs.Frame.{bind, bound, exits, given, handed, no_memory, stopped}
use Rattle.beet_errand.specs.Errands.{Answer, Step, gives, reads, ◌>>=◌}
use Rattle.beet_lot_files.specs.LotSchedules.{lot_schedule_of}
use Rattle.beet_lot_files.specs.declared.session_file.LotRow.{LotRow}
use Rattle.beet_lot_load.specs.Lots.{lots_errand}
use Rattle.beet_world.specs.declared.schedule.TheConstants.{SCHEDULE_LIMIT}
use Rattle.beet_job_replay.specs.Replay.{replayed}
use Rattle.beet_job_replay.proofs.replaying.replay.Goals as goal

-- what comes after the rows and the seeds
abbrev rest : List ℕ → List LotRow × Servers → Step Answer
rest schedule read =
    lots_errand read.1 read.0 >>= (λ lots. reads schedule SCHEDULE_LIMIT (lot_schedule_of (length read.0))
    >>= (λ deliveries. gives (replayed read.0 lots deliveries)))

pub returns-in_err-lots-clause-reads : goal.returns-in_err-lots-clause-reads
returns-in_err-lots-clause-reads g c =
    exits c.from_residual.ensures.1 (stopped {rest = rest c.args.schedule.now} c.in_err-lots.ensures)

pub returns-in_err-begun-clause-reads : goal.returns-in_err-begun-clause-reads
returns-in_err-begun-clause-reads g c =
    exits c.from_residual-in_err-begun.ensures.1
    (bind {rest = rest c.args.schedule.now} c.in_ok-lots.ensures (stopped (rw c.rows-rows.ensures.lots at c.in_err-begun.ensures)))

pub returns-in_err-begun-2-clause-reads : goal.returns-in_err-begun-2-clause-reads
returns-in_err-begun-2-clause-reads g c =
    exits c.from_residual-in_err-begun-2.ensures.1
    (bind {rest = rest c.args.schedule.now} c.in_ok-lots.ensures
    (bound (rw c.rows-rows.ensures.lots at c.in_ok-begun.ensures)
    (λ lots are. stopped (handed c.in_err-begun-2.ensures (rw c.rows-rows.ensures.lots at c.read_deliveries-deliveries.ensures.reads)))))

pub returns-in_err-reply-clause-reads : goal.returns-in_err-reply-clause-reads
returns-in_err-reply-clause-reads g c =
    exits c.from_residual-in_err-reply.ensures.1
    (bind {rest = rest c.args.schedule.now} c.in_ok-lots.ensures
    (bound (rw c.rows-rows.ensures.lots at c.in_ok-begun.ensures) (λ lots are. bind (handed c.in_ok-begun-2.ensures.1
    (rw c.rows-rows.ensures.lots at c.read_deliveries-deliveries.ensures.reads)) no_memory)))

pub returns-clause-reads : goal.returns-clause-reads
returns-clause-reads g c =
    bind {rest = rest c.args.schedule.now} c.in_ok-lots.ensures
    (bound (rw c.rows-rows.ensures.lots at c.in_ok-begun.ensures) (λ lots are. bind (handed c.in_ok-begun-2.ensures.1
    (rw c.rows-rows.ensures.lots at c.read_deliveries-deliveries.ensures.reads))
    (given (sym ((rw (c.rows-rows.ensures.lots, c.in_ok-begun-2.ensures.0, c.as_slice.ensures.value)
    at (c.in_ok-reply.ensures.tells lots)) are)))))
