use Rattle.std.specs.Prelude.{List}
use Rattle.beet_book.specs.declared.sources.Servers.{Servers}
use Rattle.beet_errand.proofs.Frame.{bind, bound, exits, given, stopped}
use Rattle.beet_errand.specs.Errands.{Answer, Step, gives, ◌>>=◌}
use Rattle.beet_lot_files.specs.declared.session_file.LotRow.{LotRow}
use Rattle.beet_lot_load.proofs.LotsTelling.{told-reply}
use Rattle.beet_lot_load.specs.Lots.{lots_errand}
use Rattle.beet_job_session.specs.Sessions.{session_answer}
use Rattle.beet_job_session.proofs.running.session.Goals as goal

-- what comes after the rows and the seeds
abbrev rest : List LotRow × Servers → Step Answer
rest read = lots_errand read.1 read.0 >>= (λ lots. gives (session_answer read.0 lots))

pub returns-in_err-lots-clause-reads : goal.returns-in_err-lots-clause-reads
returns-in_err-lots-clause-reads g c = exits c.from_residual.ensures.1 (stopped {rest = rest} c.in_err-lots.ensures)

pub returns-in_err-cleared-clause-reads : goal.returns-in_err-cleared-clause-reads
returns-in_err-cleared-clause-reads g c =
    exits c.from_residual-in_err-cleared.ensures.1
    (bind {rest = rest} c.in_ok-lots.ensures (stopped (rw c.rows.ensures.lots at c.in_err-cleared.ensures)))

pub returns-clause-reads : goal.returns-clause-reads
returns-clause-reads g c =
    bind {rest = rest} c.in_ok-lots.ensures
    (bound (rw c.rows.ensures.lots at c.in_ok-cleared.ensures)
    (λ lots taken. given (told-reply _ _ _ _ taken.all c.into_reply.ensures.reply)))
