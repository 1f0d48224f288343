use Rattle.std.proofs.Common.{◌≡◌, arith, length, refl}
use Rattle.beet_errand.proofs.Frame.{bind, exits, given, no_memory, stopped}
use Rattle.beet_job_session_pair.proofs.LotReads.{left-over, left-read, left-stops}
use Rattle.beet_job_session_pair.proofs.reading.read_whole.Goals as goal

pub returns-in_err-grid-clause-reads : goal.returns-in_err-grid-clause-reads
returns-in_err-grid-clause-reads g c = exits c.from_residual.ensures.1 (stopped (rw c.as_str.ensures at c.in_err-grid.ensures))

pub returns-in_err-entries-clause-reads : goal.returns-in_err-entries-clause-reads
returns-in_err-entries-clause-reads g c =
    exits c.from_residual-in_err-entries.ensures.1
    (bind (rw c.as_str.ensures at c.in_ok-grid.ensures) (stopped (rw c.as_str-2.ensures at c.in_err-entries.ensures.reads)))

pub returns-in_err-check_product-clause-reads : goal.returns-in_err-check_product-clause-reads
returns-in_err-check_product-clause-reads g c =
    let count : c.len-count.result ≡ length c.in_ok-entries.entries.items = omega arith in
    exits c.from_residual-in_err-check_product.ensures.1
    (bind (rw c.as_str.ensures at c.in_ok-grid.ensures) (bind (rw c.as_str-2.ensures at c.in_ok-entries.ensures.reads)
    (left-over c.args.sources.now c.args.lot c.args.lots.now.product c.args.row.now.book c.in_ok-grid.grid c.in_ok-entries.entries.items
    _ (rw (count, c.as_str-3.ensures) at c.in_err-check_product.ensures.tests))))

pub returns-in_err-whole-clause-reads : goal.returns-in_err-whole-clause-reads
returns-in_err-whole-clause-reads g c =
    let count : c.len-count.result ≡ length c.in_ok-entries.entries.items = omega arith in
    exits c.from_residual-in_err-whole.ensures.1
    (bind (rw c.as_str.ensures at c.in_ok-grid.ensures) (bind (rw c.as_str-2.ensures at c.in_ok-entries.ensures.reads)
    (left-stops c.args.sources.now c.args.lot c.args.lots.now.product c.args.row.now.book c.in_ok-grid.grid c.in_ok-entries.entries.items
    (rw (count, c.as_str-3.ensures) at c.in_ok-check_product.ensures.tests) _ (rw c.as_slice.ensures.value at c.in_err-whole.ensures))))

pub returns-in_err-pushed-clause-reads : goal.returns-in_err-pushed-clause-reads
returns-in_err-pushed-clause-reads g c =
    let count : c.len-count.result ≡ length c.in_ok-entries.entries.items = omega arith in
    exits c.from_residual-in_err-pushed.ensures.1
    (bind (rw c.as_str.ensures at c.in_ok-grid.ensures) (bind (rw c.as_str-2.ensures at c.in_ok-entries.ensures.reads)
    (left-read c.args.sources.now c.args.lot c.args.lots.now.product c.args.row.now.book c.in_ok-grid.grid c.in_ok-entries.entries.items
    (rw (count, c.as_str-3.ensures) at c.in_ok-check_product.ensures.tests) _ _ (rw c.as_slice.ensures.value at c.in_ok-whole.ensures)
    no_memory)))

pub returns-clause-reads : goal.returns-clause-reads
returns-clause-reads g c =
    let count : c.len-count.result ≡ length c.in_ok-entries.entries.items = omega arith in
    let whole = c.in_ok-whole.whole in
    let taken = rw (count, c.prices-prices.ensures.value) at c.in_ok-pushed.ensures.product in
    bind (rw c.as_str.ensures at c.in_ok-grid.ensures) (bind (rw c.as_str-2.ensures at c.in_ok-entries.ensures.reads)
    (left-read c.args.sources.now c.args.lot c.args.lots.now.product c.args.row.now.book c.in_ok-grid.grid c.in_ok-entries.entries.items
    (rw (count, c.as_str-3.ensures) at c.in_ok-check_product.ensures.tests) _ _ (rw c.as_slice.ensures.value at c.in_ok-whole.ensures)
    (given (record {
      book = whole.book;
      held = whole.words;
      books = c.in_ok-pushed.ensures.books;
      words = c.in_ok-pushed.ensures.words;
      runs = whole.runs;
      lot = refl;
      product = omega (arith, taken);
    }))))
