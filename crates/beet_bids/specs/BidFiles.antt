-- The bid file: a header, and a line for each price from which the quantities change.
use Rattle.std.specs.Prelude.{ℕ, Bool, not, ◌==◌, ◌&&◌, ◌||◌, nat_lt, nat_le, if◌then◌else◌, List, [], ◌∷◌, map, drop}
use Rattle.std.specs.Prelude.{reverse, find, filter_map, zip, Option, None, Some, is_none, is_ok, unwrap_or, codes}
use Rattle.beet_forms.specs.Faults.{Reading, first_fault, reading_of}
use Rattle.beet_forms.specs.Numbers.{number_of, decimal_value}
use Rattle.beet_forms.specs.Rows.{rows_of, begins_with, three_of}
use Rattle.beet_forms.specs.declared.row.Row.{Row}
use Rattle.beet_bids.specs.Grids.{Grid, price_of, place_of, places_of}
use Rattle.beet_bids.specs.declared.curve.TheConstants.{LARGEST_QUANTITY}
use Rattle.beet_bids.specs.Curves.{Curve}
use Rattle.beet_forms.specs.declared.faults.TheConstants.{BAD_HEADER, BAD_ROW}
use Rattle.beet_bids.specs.declared.lines.TheConstants.{OFF_GRID, NOT_ASCENDING, BUY_RISES, SELL_FALLS}
use Rattle.beet_bids.specs.declared.lines.TheConstants.{QUANTITY_TOO_LARGE, NO_BASE}
use Rattle.beet_bids.specs.declared.lines.Line.{Line}

-- whether a text is a number, however large
abbrev pub is_number : List ℕ → Bool
is_number digits = is_ok (number_of digits (decimal_value digits))

-- the line of three numbers
abbrev pub line_in : Option (List ℕ × List ℕ × List ℕ) → Option Line
line_in None = None
line_in (Some fields) =
    if is_number fields.0 && (is_number fields.1 && is_number fields.2) then
    Some (record { price = decimal_value fields.0; buy = decimal_value fields.1; sell = decimal_value fields.2 })
    else None

-- the line of a row that has three numbers
abbrev pub bid_line_of : Row → Option Line
bid_line_of row = line_in (three_of row)

-- whether a quantity of the line is above its limit
abbrev pub is_large : Line → Bool
is_large line = nat_lt LARGEST_QUANTITY line.buy || nat_lt LARGEST_QUANTITY line.sell

-- the first line begins at the base
abbrev pub first_reason : Grid → Line → Option ℕ
first_reason grid line =
    if not (line.price == grid.base) then Some NO_BASE
    else if is_large line then Some QUANTITY_TOO_LARGE
    else None

-- each further line is above the line before it, buys no more and sells no less
abbrev pub next_reason : Line → Line → Option ℕ
next_reason before line =
    if nat_le line.price before.price then Some NOT_ASCENDING
    else if is_large line then Some QUANTITY_TOO_LARGE
    else if nat_lt before.buy line.buy then Some BUY_RISES
    else if nat_lt line.sell before.sell then Some SELL_FALLS
    else None

-- why a row is refused, beside the row before it: no line, a price that the grid has not, or what stands above; a row
-- before that has no line is refused itself
abbrev pub line_reason : Grid → Option Line → Option Line → Option ℕ
line_reason grid before None = Some BAD_ROW
line_reason grid None (Some line) =
    if is_none (place_of grid line.price) then Some OFF_GRID else first_reason grid line
line_reason grid (Some before) (Some line) =
    if is_none (place_of grid line.price) then Some OFF_GRID else next_reason before line

-- the reasons of all rows after the header; if there is none, the second row is missed
abbrev pub line_reasons : Grid → List (Option Line) → List (Option ℕ)
line_reasons grid [] = Some NO_BASE ∷ []
line_reasons grid (line ∷ lines) =
    map (λ pair. line_reason grid pair.0 pair.1) (zip (None ∷ line ∷ lines) (line ∷ lines))

-- row 1: no header
abbrev pub header_reason : List Row → Option ℕ
header_reason rows = if begins_with rows (codes "beet-bid" ∷ codes "1" ∷ []) then None else Some BAD_HEADER

-- the last line whose price is at most this one
abbrev pub line_at : List Line → ℕ → Option Line
line_at lines price = find (λ line. nat_le line.price price) (reverse lines)

-- the line that holds at a place
abbrev pub held_line : Grid → List Line → ℕ → Line
held_line grid lines place =
    unwrap_or (line_at lines (price_of grid place)) (record { price = 0; buy = 0; sell = 0 })

-- its quantities at each place
abbrev pub curve_in : Grid → List Line → Curve
curve_in grid lines = record {
  buy = map (λ place. (held_line grid lines place).buy) (places_of grid);
  sell = map (λ place. (held_line grid lines place).sell) (places_of grid);
}

-- the curve of the rows, or the first row that is refused
abbrev pub bid_in : Grid → List Row → Reading Curve
bid_in grid rows =
    reading_of (first_fault 1 (header_reason rows ∷ line_reasons grid (map bid_line_of (drop 1 rows))))
    (curve_in grid (filter_map bid_line_of (drop 1 rows)))

-- what a bid file reads as, for a grid
abbrev pub bid_of : Grid → List ℕ → Reading Curve
bid_of grid bytes = bid_in grid (rows_of bytes)
