-- The rows of a text file: csv's records, with comma, without a header row, of any lengths.
use Rattle.std.specs.Prelude.{ℕ, Bool, false, List, [], ◌∷◌, Option, Some, None, bytes_eq}
use Rattle.std.specs.Cmp.Lexicographic.{pointwise}
use Rattle.csv.specs.Reading.{default_config, strip_bom, records}
use Rattle.beet_forms.specs.declared.row.Row.{Row}

-- the rows of a text
abbrev pub rows_of : List ℕ → List Row
rows_of bytes = records default_config (strip_bom bytes)

-- whether two rows have the same fields
abbrev pub same_row : Row → Row → Bool
same_row = pointwise bytes_eq

-- whether the first of the rows is there and is this one
abbrev pub begins_with : List Row → Row → Bool
begins_with [] header = false
begins_with (row ∷ rows) header = same_row row header

-- the fields of a row that has exactly two
abbrev pub two_of : Row → Option (List ℕ × List ℕ)
two_of [] = None
two_of (a ∷ []) = None
two_of (a ∷ b ∷ []) = Some (a, b)
two_of (a ∷ b ∷ c ∷ more) = None

-- the fields of a row that has exactly three
abbrev pub three_of : Row → Option (List ℕ × List ℕ × List ℕ)
three_of [] = None
three_of (a ∷ []) = None
three_of (a ∷ b ∷ []) = None
three_of (a ∷ b ∷ c ∷ []) = Some (a, b, c)
three_of (a ∷ b ∷ c ∷ d ∷ more) = None

-- the fields of a row that has exactly four
abbrev pub four_of : Row → Option (List ℕ × List ℕ × List ℕ × List ℕ)
four_of [] = None
four_of (a ∷ []) = None
four_of (a ∷ b ∷ []) = None
four_of (a ∷ b ∷ c ∷ []) = None
four_of (a ∷ b ∷ c ∷ d ∷ []) = Some (a, b, c, d)
four_of (a ∷ b ∷ c ∷ d ∷ e ∷ more) = None

-- the fields of a row that has exactly five
abbrev pub five_of : Row → Option (List ℕ × List ℕ × List ℕ × List ℕ × List ℕ)
five_of [] = None
five_of (a ∷ []) = None
five_of (a ∷ b ∷ []) = None
five_of (a ∷ b ∷ c ∷ []) = None
five_of (a ∷ b ∷ c ∷ d ∷ []) = None
five_of (a ∷ b ∷ c ∷ d ∷ e ∷ []) = Some (a, b, c, d, e)
five_of (a ∷ b ∷ c ∷ d ∷ e ∷ f ∷ more) = None
