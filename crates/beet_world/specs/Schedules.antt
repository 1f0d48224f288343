-- The file of a schedule: the row beet-schedule,1 and then a row FROM,TO,ROUND for each delivery. Schedules of another
-- kind have other rows, and the same limits and reasons.
use Rattle.std.specs.Prelude.{ℕ, ◌==◌, if◌then◌else◌, List, [], ◌∷◌, drop, Option, Some, None, Result, Ok, Err, codes}
use Rattle.std.specs.List.{filter_map}
use Rattle.std.specs.Option.{ok_or}
use Rattle.std.specs.Result.{result_err}
use Rattle.beet_field.specs.declared.point.Point.{Point}
use Rattle.beet_field.specs.Point.{number_of as number_of_server, server_of}
use Rattle.beet_forms.specs.declared.row.Row.{Row}
use Rattle.beet_forms.specs.declared.decimals.NumberFault.{NumberFault}
use Rattle.beet_forms.specs.Faults.{Reading, at_row, reading_of, first_row_fault}
use Rattle.beet_forms.specs.Numbers.{number_of}
use Rattle.beet_forms.specs.Rows.{rows_of, begins_with, three_of}
use Rattle.beet_world.specs.declared.schedule.TheConstants.{BAD_DELIVERY, TOO_MANY_DELIVERIES, ONE_DELIVERY_TOO_MANY}
use Rattle.beet_world.specs.declared.schedule.TheConstants.{LATEST_ROUND}
use Rattle.beet_world.specs.declared.schedule.Delivery.{Delivery}

-- the delivery of a row's parts, or none if a part is none or the sender is the receiver
abbrev pub delivery_of : Option Point → Option Point → Result ℕ NumberFault → Option Delivery
delivery_of (Some from) (Some to) (Ok round) =
    if number_of_server from == number_of_server to then None else Some (record { from = from; to = to; round = round })
delivery_of _ _ _ = None

-- the delivery of three fields, or none if one is not of its form
abbrev pub delivery_named : List ℕ → List ℕ → List ℕ → Option Delivery
delivery_named from to round = delivery_of (server_of from) (server_of to) (number_of round LATEST_ROUND)

-- the delivery of a row's three fields, or none; a row of another width has none
abbrev pub delivery_of_fields : Option (List ℕ × List ℕ × List ℕ) → Option Delivery
delivery_of_fields None = None
delivery_of_fields (Some (from, to, round)) = delivery_named from to round

-- the delivery of a row, or none if the row is not of its form
abbrev pub delivery_in : Row → Option Delivery
delivery_in row = delivery_of_fields (three_of row)

-- the delivery of the row with this number, or the first reason against the row: it is one too many, or not of its form
abbrev pub delivery_at : {A : Type 0} → (Row → Option A) → ℕ → Row → Result A ℕ
delivery_at delivery_in number row =
    if number == ONE_DELIVERY_TOO_MANY then Err TOO_MANY_DELIVERIES else ok_or (delivery_in row) BAD_DELIVERY

-- the reason against the row with this number
abbrev pub reason_against : {A : Type 0} → (Row → Option A) → ℕ → Row → Option ℕ
reason_against delivery_in number row = result_err (delivery_at delivery_in number row)

-- what the rows after the first read as: their deliveries, or the first row that is refused
abbrev pub deliveries_of : {A : Type 0} → (Row → Option A) → List Row → Reading (List A)
deliveries_of delivery_in rows =
    reading_of (first_row_fault (reason_against delivery_in) 2 rows) (filter_map delivery_in rows)

-- what the rows of a schedule of this kind read as
abbrev pub schedule_in : {A : Type 0} → (Row → Option A) → List ℕ → List Row → Reading (List A)
schedule_in delivery_in kind rows =
    if begins_with rows (kind ∷ codes "1" ∷ []) then deliveries_of delivery_in (drop 1 rows)
    else Err (at_row 1 BAD_DELIVERY)

-- what a schedule file reads as
abbrev pub schedule_of : List ℕ → Reading (List Delivery)
schedule_of bytes = schedule_in delivery_in (codes "beet-schedule") (rows_of bytes)
