-- The file of a sale: the row beet-sale,1, the row of the kind of gates, and then a row for each bidder.
use Rattle.std.specs.Prelude.{ℕ, ◌+◌, nat_lt, if◌then◌else◌, List, [], ◌∷◌, length, drop, slice_get, Option, Some, None}
use Rattle.std.specs.Prelude.{option_and_then, Ok, Err, codes}
use Rattle.beet_forms.specs.declared.row.Row.{Row}
use Rattle.beet_forms.specs.Faults.{Reading, at_row}
use Rattle.beet_forms.specs.Rows.{rows_of, same_row, begins_with}
use Rattle.beet_forms.specs.declared.faults.TheConstants.{BAD_HEADER, BAD_ROW}
use Rattle.beet_gates.specs.declared.Gates.{Gates}
use Rattle.beet_gates.specs.declared.Gates.TheVariants.{Chain, Tree}
use Rattle.beet_book.specs.NamedRows.{named_rows}
use Rattle.beet_sale_plan.specs.declared.TheConstants.{FEWEST_SALE_BIDDERS}
use Rattle.beet_sale_file.specs.declared.rows.SaleRow.{SaleRow}
use Rattle.beet_sale_file.specs.declared.sale_file.TheConstants.{BAD_GATES, ONE_SALE_BIDDER_TOO_MANY}
use Rattle.beet_sale_file.specs.SaleRows.{row_in}
use Rattle.beet_sale_file.specs.Sales.{SaleRecord}

-- the kind of gates of a row, or none if it is neither gates,chain nor gates,tree
abbrev pub gates_in : Row → Option Gates
gates_in row =
    if same_row row (codes "gates" ∷ codes "chain" ∷ []) then Some Chain
    else if same_row row (codes "gates" ∷ codes "tree" ∷ []) then Some Tree
    else None

-- the bidders of the rows from row 3 on, unless they are too few: the next row is missing then
abbrev pub enough_of : Reading (List SaleRow) → Reading (List SaleRow)
enough_of (Ok bidders) =
    if nat_lt (length bidders) FEWEST_SALE_BIDDERS then Err (at_row (3 + length bidders) BAD_ROW) else Ok bidders
enough_of (Err fault) = Err fault

-- what the rows from row 3 on read as: from 2 to 16 bidders, no two of one name
abbrev pub bidders_in : List Row → Reading (List SaleRow)
bidders_in rows = enough_of (named_rows row_in 3 ONE_SALE_BIDDER_TOO_MANY rows)

-- the sale with these gates, or the first row that is refused
abbrev pub sale_with : Gates → Reading (List SaleRow) → Reading SaleRecord
sale_with gates (Ok bidders) = Ok (record { gates = gates; rows = bidders })
sale_with gates (Err fault) = Err fault

-- what the rows after the header read as, if row 2 has these gates
abbrev pub sale_from : Option Gates → List Row → Reading SaleRecord
sale_from None rows = Err (at_row 2 BAD_GATES)
sale_from (Some gates) rows = sale_with gates (bidders_in rows)

-- what the rows of a sale file read as
abbrev pub sale_in : List Row → Reading SaleRecord
sale_in rows =
    if begins_with rows (codes "beet-sale" ∷ codes "1" ∷ []) then
    sale_from (option_and_then gates_in (slice_get rows 1)) (drop 2 rows)
    else Err (at_row 1 BAD_HEADER)

-- what a sale file reads as
abbrev pub sale_of : List ℕ → Reading SaleRecord
sale_of bytes = sale_in (rows_of bytes)
