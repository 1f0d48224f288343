-- The file of a session: the row beet-session,1 and then for each lot a row LOT,AUCTION,BOOK.
use Rattle.std.specs.Prelude.{ℕ, List, [], ◌∷◌, Option, Some, None, Result, Ok, Err, codes}
use Rattle.beet_forms.specs.declared.row.Row.{Row}
use Rattle.beet_forms.specs.Faults.{Reading, at_row}
use Rattle.beet_forms.specs.Rows.{rows_of, three_of}
use Rattle.beet_forms.specs.declared.faults.TheConstants.{BAD_ROW}
use Rattle.beet_book.specs.Entries.{name_of}
use Rattle.beet_book.specs.NamedRows.{named_file}
use Rattle.beet_lot_files.specs.declared.session_file.LotRow.{LotRow}
use Rattle.beet_lot_files.specs.declared.session_file.TheConstants.{ONE_LOT_TOO_MANY}

-- the lot of the names of a row, or the reason against them
abbrev pub lot_of : Option (List ℕ) → Option (List ℕ) → Option (List ℕ) → Result LotRow ℕ
lot_of (Some name) (Some auction) (Some book) = Ok (record { name = name; auction = auction; book = book })
lot_of _ _ _ = Err BAD_ROW

-- the lot of a row's three fields, or the reason against them; a row of another width has none
abbrev pub lot_of_fields : Option (List ℕ × List ℕ × List ℕ) → Result LotRow ℕ
lot_of_fields None = Err BAD_ROW
lot_of_fields (Some (name, auction, book)) = lot_of (name_of name) (name_of auction) (name_of book)

-- the lot of a row, or the reason against the row
abbrev pub lot_in : Row → Result LotRow ℕ
lot_in row = lot_of_fields (three_of row)

-- the lots, of which there is one at least
abbrev pub with_lots : Reading (List LotRow) → Reading (List LotRow)
with_lots (Ok []) = Err (at_row 2 BAD_ROW)
with_lots (Ok (lot ∷ lots)) = Ok (lot ∷ lots)
with_lots (Err fault) = Err fault

-- what a session file reads as: 1 to 16 lots, no two of one name
abbrev pub session_of : List ℕ → Reading (List LotRow)
session_of bytes =
    with_lots (named_file lot_in ONE_LOT_TOO_MANY (codes "beet-session" ∷ codes "1" ∷ []) (rows_of bytes))
