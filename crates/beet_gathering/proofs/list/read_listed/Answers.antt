use Rattle.std.proofs.Common.{List, ℕ, refl}
use Rattle.beet_bids.specs.Grids.{Grid}
use Rattle.beet_book.specs.declared.sources.Servers.{Servers}
use Rattle.beet_errand.proofs.Frame.{bind, exits, given, handed, stopped}
use Rattle.beet_errand.specs.Errands.{Step, gives, reads, ◌>>=◌}
use Rattle.beet_farmer.specs.Lists.{list_of}
use Rattle.beet_farmer.specs.declared.list_file.ListEntry.{ListEntry}
use Rattle.beet_farmer.specs.declared.list_file.TheConstants.{LIST_LIMIT}
use Rattle.beet_gathering.proofs.list.read_listed.Goals as goal

-- what comes after the grid and the servers
abbrev rest : List ℕ → Grid × Servers → Step (Grid × Servers × List ListEntry)
rest list read = reads list LIST_LIMIT list_of >>= (λ entries. gives (read.0, read.1, entries))

pub returns-in_err-grid-clause-reads : goal.returns-in_err-grid-clause-reads
returns-in_err-grid-clause-reads g c =
    exits c.from_residual.ensures.1 (stopped {rest = rest c.args.files.now.list.now} c.in_err-grid.ensures)

pub returns-in_err-sources-clause-reads : goal.returns-in_err-sources-clause-reads
returns-in_err-sources-clause-reads g c =
    exits c.from_residual-in_err-sources.ensures.1
    (bind {rest = rest c.args.files.now.list.now} c.in_ok-grid.ensures
    (stopped (handed c.in_err-sources.ensures c.read_entries.ensures.reads)))

pub returns-clause-reads : goal.returns-clause-reads
returns-clause-reads g c =
    let grid = c.in_ok-grid.grid in
    bind {rest = rest c.args.files.now.list.now} c.in_ok-grid.ensures
    (bind {rest = λ entries. gives (grid, c.in_ok-grid.sources, entries)}
    (handed c.in_ok-sources.ensures.1 c.read_entries.ensures.reads)
    (given {b = (grid, c.in_ok-grid.sources, c.in_ok-sources.entries.items)} (rw c.in_ok-sources.ensures.0 refl)))

pub returns-clause-few : goal.returns-clause-few
returns-clause-few g c = rw c.in_ok-sources.ensures.1 at c.read_entries.ensures.few
