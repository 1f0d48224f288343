-- The rows of schedules for several lots: LOT,FROM,TO,ROUND.
use Rattle.std.specs.Prelude.{ℕ, ◌-◌, ◌==◌, if◌then◌else◌, List, Option, Some, None, Result, Ok, Err}
use Rattle.beet_forms.specs.declared.row.Row.{Row}
use Rattle.beet_forms.specs.declared.decimals.NumberFault.{NumberFault}
use Rattle.beet_forms.specs.Numbers.{number_of}
use Rattle.beet_forms.specs.Rows.{four_of}
use Rattle.beet_world.specs.Schedules.{delivery_named}
use Rattle.beet_world.specs.declared.schedule.Delivery.{Delivery}
use Rattle.beet_lots.specs.declared.lots.LotDelivery.{LotDelivery}

-- the lot, from 0, with this number from 1
abbrev pub lot_numbered : Result ℕ NumberFault → Option ℕ
lot_numbered (Ok number) = if number == 0 then None else Some (number - 1)
lot_numbered (Err fault) = None

-- the lot that a field names, of so many lots, or none if it names none of them
abbrev pub lot_named : ℕ → List ℕ → Option ℕ
lot_named lots field = lot_numbered (number_of field lots)

-- the delivery of a message of a lot, if there are both
abbrev pub in_lot : Option ℕ → Option Delivery → Option LotDelivery
in_lot (Some lot) (Some delivery) = Some (record { lot = lot; delivery = delivery })
in_lot _ _ = None

-- the delivery of a row's four fields, or none; a row of another width has none
abbrev pub lot_delivery_of_fields : ℕ → Option (List ℕ × List ℕ × List ℕ × List ℕ) → Option LotDelivery
lot_delivery_of_fields lots None = None
lot_delivery_of_fields lots (Some (lot, from, to, round)) = in_lot (lot_named lots lot) (delivery_named from to round)

-- the delivery of a row in a schedule for so many lots, or none if the row is not of its form
abbrev pub lot_delivery_in : ℕ → Row → Option LotDelivery
lot_delivery_in lots row = lot_delivery_of_fields lots (four_of row)
