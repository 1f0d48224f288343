use Rattle.std.proofs.Common.{List}
use Rattle.beet_bids.specs.Grids.{Grid}
use Rattle.beet_book.specs.declared.sources.Servers.{Servers}
use Rattle.beet_errand.proofs.Frame.{bind, exits, stopped}
use Rattle.beet_errand.specs.Errands.{Answer, Step}
use Rattle.beet_farmer.specs.declared.list_file.ListEntry.{ListEntry}
use Rattle.beet_job_envelopes.specs.Open.{entries_job, open_job}
use Rattle.beet_job_envelopes.proofs.opening.open_envelopes.Goals as goal

-- what comes after the grid, the servers and the entries
abbrev rest : Grid × Servers × List ListEntry → Step Answer
rest read = entries_job read.0 read.1 read.2

pub returns-in_err-grid-clause-reads : goal.returns-in_err-grid-clause-reads
unfolding open_job
returns-in_err-grid-clause-reads g c = exits c.from_residual.ensures.1 (stopped {rest = rest} c.in_err-grid.ensures.reads)

pub returns-clause-reads : goal.returns-clause-reads
unfolding open_job
returns-clause-reads g c =
    bind {rest = rest} c.in_ok-grid.ensures.reads (rw c.as_slice.ensures.value at c.open_entries-opened.ensures.reads)
