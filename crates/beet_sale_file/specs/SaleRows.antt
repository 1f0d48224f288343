-- The row of a bidder in a sale: NAME,KNOWN,BID,KIND,SOURCE.
use Rattle.std.specs.Prelude.{ℕ, List, Option, Some, None, option_map, Result, Err}
use Rattle.std.specs.Option.{ok_or}
use Rattle.std.specs.Result.{result_ok}
use Rattle.beet_field.specs.declared.point.Point.{Point}
use Rattle.beet_forms.specs.declared.row.Row.{Row}
use Rattle.beet_forms.specs.Numbers.{number_of}
use Rattle.beet_forms.specs.Rows.{five_of}
use Rattle.beet_forms.specs.declared.faults.TheConstants.{BAD_ROW}
use Rattle.beet_book.specs.declared.entries.BidderSource.{BidderSource}
use Rattle.beet_book.specs.Entries.{known_of, name_of, source_of}
use Rattle.beet_sale_plan.specs.declared.TheConstants.{LARGEST_BID}
use Rattle.beet_sale_file.specs.declared.rows.TheConstants.{BAD_SALE_SOURCE}
use Rattle.beet_sale_file.specs.declared.rows.SaleRow.{SaleRow}

-- the bid that a text writes, or none if it is no number within its limit
abbrev pub bid_in : List ℕ → Option ℕ
bid_in text = result_ok (number_of text LARGEST_BID)

-- the bidder of the parts of a row, or the reason against them
abbrev pub row_of : Option (List ℕ) → Option (Option Point) → Option ℕ → Option BidderSource → Result SaleRow ℕ
row_of (Some name) (Some known) (Some bid) source =
    ok_or (option_map (λ source. record { name = name; bid = record { known = known; bid = bid }; source = source })
    source) BAD_SALE_SOURCE
row_of _ _ _ _ = Err BAD_ROW

-- the bidder of a row's five fields, or the reason against them; a row of another width has none
abbrev pub row_of_fields : Option (List ℕ × List ℕ × List ℕ × List ℕ × List ℕ) → Result SaleRow ℕ
row_of_fields None = Err BAD_ROW
row_of_fields (Some (name, known, bid, kind, source)) =
    row_of (name_of name) (known_of known) (bid_in bid) (source_of kind source)

-- the bidder of a row, or the reason against the row
abbrev pub row_in : Row → Result SaleRow ℕ
row_in row = row_of_fields (five_of row)
