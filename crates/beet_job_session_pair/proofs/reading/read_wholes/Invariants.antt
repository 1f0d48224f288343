use Rattle.std.proofs.Common.{◌≡◌, ◌≤◌, drop, length}
use Rattle.beet_book.specs.declared.book_file.TheConstants.{MOST_PRODUCT}
use Rattle.beet_lot_load.proofs.EachRow.{ReadsRows}
use Rattle.beet_job_session_pair.specs.Kept.{AreKept}
use Rattle.beet_job_session_pair.specs.Reading.{next_limited}
use Rattle.beet_job_session_pair.specs.Starting.{CanStartEach}
use Rattle.beet_job_session_pair.proofs.reading.read_wholes.Given as goal

abbrev pub invariant-loop-i : goal.invariant-loop-i
invariant-loop-i g l = record {
  kept : ReadsRows AreKept (next_limited l.fn.sources) l.fn.rows (drop l.i l.fn.rows) (g.S.Shelf.seen l.fn.shelf)
      (g.S.Shelf.seen l.shelf) l.lots l.i;
  runs : CanStartEach l.lots.books.items l.lots.words.items;
  count : length l.lots.books.items ≡ l.i;
  within : l.lots.product ≤ MOST_PRODUCT;
}
