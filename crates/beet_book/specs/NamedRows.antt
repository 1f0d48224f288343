-- Files of a header and then few rows, each of which begins with a name of its own.
use Rattle.std.specs.Prelude.{ℕ, Bool, ◌-◌, ◌==◌, if◌then◌else◌, List, [], take, drop, Option, unwrap_or, Result, Ok}
use Rattle.std.specs.Prelude.{Err, bytes_eq}
use Rattle.std.specs.List.{filter_map, list_any, slice_get}
use Rattle.std.specs.Result.{result_ok, result_err}
use Rattle.beet_forms.specs.declared.row.Row.{Row}
use Rattle.beet_forms.specs.Faults.{Reading, at_row, reading_of, first_row_fault}
use Rattle.beet_forms.specs.Rows.{begins_with}
use Rattle.beet_forms.specs.declared.faults.TheConstants.{BAD_HEADER}
use Rattle.beet_book.specs.declared.named_file.TheConstants.{SAME_NAME, TOO_MANY}

-- what one row reads as, by its number
abbrev pub reading_at : {A : Type 0} → ℕ → Result A ℕ → Reading A
reading_at number (Ok value) = Ok value
reading_at number (Err reason) = Err (at_row number reason)

abbrev pub first_field : Row → List ℕ
first_field row = unwrap_or (slice_get row 0) []

-- whether one of the rows has this name
abbrev pub has_name : List ℕ → List Row → Bool
has_name name rows = list_any (λ row. bytes_eq (first_field row) name) rows

-- the value of a row, unless its name is taken
abbrev pub untaken : {A : Type 0} → Bool → Result A ℕ → Result A ℕ
untaken taken (Ok value) = if taken then Err SAME_NAME else Ok value
untaken taken (Err reason) = Err reason

-- the value of a row with this number, or the first reason against it: it is the row that is one too many, it is not of
-- its form, or its name is taken
abbrev pub named_in : {A : Type 0} → (Row → Result A ℕ) → ℕ → Bool → ℕ → Row → Result A ℕ
named_in value_in one_too_many taken number row =
    if number == one_too_many then Err TOO_MANY else untaken taken (value_in row)

-- the reason against a row, if the name of an earlier row is taken; the rows are counted on from the first
abbrev pub reason_against : {A : Type 0} → (Row → Result A ℕ) → ℕ → ℕ → List Row → ℕ → Row → Option ℕ
reason_against value_in first one_too_many rows number row =
    result_err (named_in value_in one_too_many (has_name (first_field row) (take (number - first) rows)) number row)

-- what the rows of a file from the one of this number on read as: their values, or the first row that is refused
abbrev pub named_rows : {A : Type 0} → (Row → Result A ℕ) → ℕ → ℕ → List Row → Reading (List A)
named_rows value_in first one_too_many rows =
    reading_of (first_row_fault (reason_against value_in first one_too_many rows) first rows)
    (filter_map (λ row. result_ok (value_in row)) rows)

-- what the rows of a file with this header read as
abbrev pub named_file : {A : Type 0} → (Row → Result A ℕ) → ℕ → Row → List Row → Reading (List A)
named_file value_in one_too_many header rows =
    if begins_with rows header then named_rows value_in 2 one_too_many (drop 1 rows) else Err (at_row 1 BAD_HEADER)
