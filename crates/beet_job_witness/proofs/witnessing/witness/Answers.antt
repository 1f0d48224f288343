use Rattle.std.proofs.Common.{◌≡◌, arith, length, List, ℕ}
use Rattle.beet_bids.specs.Grids.{Grid}
use Rattle.beet_book.specs.declared.sources.Servers.{Servers}
use Rattle.beet_errand.proofs.Frame.{bind, exits, passed, stopped, tested}
use Rattle.beet_errand.specs.Errands.{Answer, Step, ◌>>◌}
use Rattle.beet_farmer.specs.declared.list_file.ListEntry.{ListEntry}
use Rattle.beet_load.specs.Limits.{within_product}
use Rattle.beet_job_witness.specs.Witness.{kept_job, list_job, witness_job}
use Rattle.beet_job_witness.proofs.witnessing.witness.Goals as goal

-- what comes after the grid, the servers and the entries
abbrev rest : List ℕ → List ℕ → Grid × Servers × List ListEntry → Step Answer
rest list out read = within_product 0 list read.0 (length read.2) >> kept_job out read.0 read.1 read.2

pub returns-in_err-grid-clause-reads : goal.returns-in_err-grid-clause-reads
unfolding witness_job list_job
returns-in_err-grid-clause-reads g c =
    exits c.from_residual.ensures.1 (stopped {rest = rest c.args.files.now.list.now c.args.out.now} c.in_err-grid.ensures.reads)

pub returns-in_err-check_product-clause-reads : goal.returns-in_err-check_product-clause-reads
unfolding witness_job list_job
returns-in_err-check_product-clause-reads g c =
    let count : c.len.result ≡ length c.in_ok-grid.entries.items = omega arith in
    exits c.from_residual-in_err-check_product.ensures.1
    (bind {rest = rest c.args.files.now.list.now c.args.out.now} c.in_ok-grid.ensures.reads
    (tested (rw count at c.in_err-check_product.ensures.tests)))

pub returns-clause-reads : goal.returns-clause-reads
unfolding witness_job list_job
returns-clause-reads g c =
    let count : c.len.result ≡ length c.in_ok-grid.entries.items = omega arith in
    bind {rest = rest c.args.files.now.list.now c.args.out.now} c.in_ok-grid.ensures.reads
    (passed (rw count at c.in_ok-check_product.ensures.tests) (rw c.as_slice.ensures.value at c.witness_entries-witnessed.ensures.reads))
