use Rattle.std.proofs.Common.{List, ℕ, refl}
use Rattle.beet_bids.specs.Grids.{Grid}
use Rattle.beet_book.specs.BookFiles.{book_of}
use Rattle.beet_book.specs.declared.book_file.TheConstants.{BOOK_LIMIT}
use Rattle.beet_book.specs.declared.sources.Servers.{Servers}
use Rattle.beet_errand.proofs.Frame.{bind, exits, given, handed, stopped}
use Rattle.beet_errand.specs.Errands.{Step, gives, reads, ◌>>=◌}
use Rattle.beet_load.specs.Settings.{Setting, setting_errand}
use Rattle.beet_load.proofs.setting.read_setting.Goals as goal

-- what comes after the grid and the servers
abbrev rest : List ℕ → Grid × Servers → Step Setting
rest book read = reads book BOOK_LIMIT book_of >>= (λ entries. gives (record { grid = read.0; sources = read.1; entries = entries }))

pub returns-in_err-grid : goal.returns-in_err-grid
unfolding setting_errand
returns-in_err-grid g c = exits c.from_residual.ensures.1 (stopped {rest = rest c.args.files.now.book.now} c.in_err-grid.ensures)

pub returns-in_err-sources : goal.returns-in_err-sources
unfolding setting_errand
returns-in_err-sources g c =
    exits c.from_residual-in_err-sources.ensures.1 (bind {rest = rest c.args.files.now.book.now} c.in_ok-grid.ensures
    (stopped (handed c.in_err-sources.ensures c.read_entries.ensures.reads)))

pub returns : goal.returns
unfolding setting_errand
returns g c =
    bind {rest = rest c.args.files.now.book.now} c.in_ok-grid.ensures
    (bind (handed c.in_ok-sources.ensures.1 c.read_entries.ensures.reads) (given (rw c.in_ok-sources.ensures.0 refl)))
