use Rattle.beet_errand.proofs.Frame.{bind, exits, stopped}
use Rattle.beet_job_session_pair.proofs.reading.read_second.Goals as goal

pub returns-in_err-lots-clause-reads : goal.returns-in_err-lots-clause-reads
returns-in_err-lots-clause-reads g c = exits c.from_residual.ensures.1 (stopped c.in_err-lots.ensures)

pub returns-clause-reads : goal.returns-clause-reads
returns-clause-reads g c = bind c.in_ok-lots.ensures (rw c.rows.ensures.lots at c.read_books-books.ensures.reads)
