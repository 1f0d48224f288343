-- The file of a book: the row beet-book,1 and then a row for each bidder.
use Rattle.std.specs.Prelude.{ℕ, List, [], ◌∷◌, codes}
use Rattle.beet_forms.specs.Faults.{Reading}
use Rattle.beet_forms.specs.Rows.{rows_of}
use Rattle.beet_book.specs.declared.entries.Entry.{Entry}
use Rattle.beet_book.specs.declared.named_file.TheConstants.{ONE_TOO_MANY}
use Rattle.beet_book.specs.Entries.{entry_in}
use Rattle.beet_book.specs.NamedRows.{named_file}

-- what a book file reads as: at most 2,000 bidders, no two of one name
abbrev pub book_of : List ℕ → Reading (List Entry)
book_of bytes = named_file entry_in ONE_TOO_MANY (codes "beet-book" ∷ codes "1" ∷ []) (rows_of bytes)
