use Rattle.std.proofs.Common.{◌∙◌, ap, arith, length, refl, sym}
use Rattle.beet_errand.proofs.Frame.{exits, no_memory}
use Rattle.beet_lot_load.proofs.EachRow.{rows-all, rows-more, rows-none, rows-stopped}
use Rattle.beet_job_session_pair.specs.Reading.{next_alone}
use Rattle.beet_job_session_pair.proofs.BooksRead.{KeepsBooks, taken-more}
use Rattle.beet_job_session_pair.proofs.reading.read_books.Goals as goal

pub returns-in_err-books-clause-reads : goal.returns-in_err-books-clause-reads
returns-in_err-books-clause-reads g c = exits c.from_residual.ensures.1 no_memory

pub loop-row-init : goal.loop-row-init
loop-row-init g c =
    let none = c.in_ok-books.ensures.items in
    record {
      kept = rows-none KeepsBooks next_alone c.args.rows.now _ _ (sym none);
      product = rw none refl;
      within = omega arith;
      room = omega (arith, c.in_ok-books.ensures.capacity);
    }

pub returns-in_err-book-clause-reads : goal.returns-in_err-book-clause-reads
returns-in_err-book-clause-reads g c =
    let inv = c.loop-row.invariant in
    let h = inv.kept in
    exits c.from_residual-in_err-book.ensures.1
    (rows-stopped KeepsBooks next_alone c.args.rows.now c.loop-row.row-index _ _ _ _ _ (omega arith) c.row-item.is h _
    (rw (inv.product, sym h.shown) at c.in_err-book.ensures.reads))

pub loop-row-preserved : goal.loop-row-preserved
loop-row-preserved g c =
    let inv = c.loop-row.invariant in
    let h = inv.kept in
    let r = rw (inv.product, sym h.shown) at c.in_ok-book.ensures.reads in
    let items = c.push_reserved.ensures.items in
    record {
      kept = rows-more KeepsBooks next_alone c.args.rows.now c.loop-row.row-index _ _ _ _ _ (omega arith) c.row-item.is h _ r
          (rw (h.shown, r.gives.1) (sym items));
      product = taken-more _ _ c.in_ok-book.book _ _ inv.product (omega (arith, c.product_of-product.ensures)) items;
      within = omega (arith, c.product_of-product.ensures, c.in_ok-book.ensures.within);
      room = omega (arith, inv.room, c.push_reserved.ensures.capacity);
    }

pub returns-clause-count : goal.returns-clause-count
returns-clause-count g c =
    let h = c.loop-row.invariant.kept in
    ap length (sym h.shown) ∙ h.many ∙ omega arith

pub returns-clause-reads : goal.returns-clause-reads
returns-clause-reads g c =
    rows-all KeepsBooks next_alone c.args.rows.now _ _ _ c.loop-row.row-index (omega arith) (λ books many kept. kept)
    c.loop-row.invariant.kept
