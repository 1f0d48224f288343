use Rattle.beet_errand.proofs.Frame.{bind, exits, stopped}
use Rattle.beet_job_session_pair.proofs.BooksRead.{as-book}
use Rattle.beet_job_session_pair.proofs.reading.read_book.Goals as goal

pub returns-in_err-grid-clause-reads : goal.returns-in_err-grid-clause-reads
returns-in_err-grid-clause-reads g c = exits c.from_residual.ensures.1 (stopped (rw c.as_str.ensures at c.in_err-grid.ensures))

pub returns-clause-reads : goal.returns-clause-reads
returns-clause-reads g c =
    bind (rw c.as_str.ensures at c.in_ok-grid.ensures)
    (as-book c.in_ok-grid.grid c.load_curves.result c.load_curves.ensures.grid
    (rw c.as_str-2.ensures at c.load_curves.ensures.reads))
