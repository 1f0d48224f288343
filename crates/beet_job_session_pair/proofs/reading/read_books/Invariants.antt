use Rattle.std.proofs.Common.{◌≡◌, ◌≤◌, drop, length, vec_capacity}
use Rattle.beet_book.specs.declared.book_file.TheConstants.{MOST_PRODUCT}
use Rattle.beet_lot_load.proofs.EachRow.{ReadsRows}
use Rattle.beet_job_session_pair.specs.Reading.{next_alone, taken_by_books}
use Rattle.beet_job_session_pair.proofs.BooksRead.{KeepsBooks}
use Rattle.beet_job_session_pair.proofs.reading.read_books.Given as goal

abbrev pub invariant-loop-row : goal.invariant-loop-row
invariant-loop-row g l = record {
  kept : ReadsRows KeepsBooks next_alone l.fn.rows (drop l.row-index l.fn.rows)
      (g.S.Shelf.seen l.fn.shelf) (g.S.Shelf.seen l.shelf) l.books l.row-index;
  product : l.product ≡ taken_by_books l.books.items;
  within : l.product ≤ MOST_PRODUCT;
  room : length l.fn.rows ≤ vec_capacity l.books;
}
