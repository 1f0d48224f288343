-- The list of envelopes: the row beet-list,1 and then for each bidder a row NAME,E1,E2,E3.
use Rattle.std.specs.Prelude.{ℕ, List, [], ◌∷◌, Option, Some, None, Result, Ok, Err, codes}
use Rattle.beet_forms.specs.declared.row.Row.{Row}
use Rattle.beet_forms.specs.Faults.{Reading}
use Rattle.beet_forms.specs.Rows.{rows_of, four_of}
use Rattle.beet_forms.specs.declared.faults.TheConstants.{BAD_ROW}
use Rattle.beet_book.specs.Entries.{name_of}
use Rattle.beet_book.specs.NamedRows.{named_file}
use Rattle.beet_book.specs.declared.named_file.TheConstants.{ONE_TOO_MANY}
use Rattle.beet_farmer.specs.declared.list_file.ListEntry.{ListEntry}

-- the entry of the names of a row, or the reason against them
abbrev pub entry_of : Option (List ℕ) → Option (List ℕ) → Option (List ℕ) → Option (List ℕ) → Result ListEntry ℕ
entry_of (Some name) (Some one) (Some two) (Some three) =
    Ok (record { name = name; envelopes = record { one = one; two = two; three = three } })
entry_of _ _ _ _ = Err BAD_ROW

-- the entry of a row's four fields, or the reason against them; a row of another width has none
abbrev pub entry_of_fields : Option (List ℕ × List ℕ × List ℕ × List ℕ) → Result ListEntry ℕ
entry_of_fields None = Err BAD_ROW
entry_of_fields (Some (name, one, two, three)) = entry_of (name_of name) (name_of one) (name_of two) (name_of three)

-- the entry of a row, or the reason against the row
abbrev pub entry_in : Row → Result ListEntry ℕ
entry_in row = entry_of_fields (four_of row)

-- what a list reads as: at most 2,000 bidders, no two of one name
abbrev pub list_of : List ℕ → Reading (List ListEntry)
list_of bytes = named_file entry_in ONE_TOO_MANY (codes "beet-list" ∷ codes "1" ∷ []) (rows_of bytes)
