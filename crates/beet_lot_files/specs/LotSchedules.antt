-- The file of a schedule for several lots: the row beet-lot-schedule,1 and then a row LOT,FROM,TO,ROUND for each
-- delivery, with the limits and the reasons of a schedule.
use Rattle.std.specs.Prelude.{ℕ, List, codes}
use Rattle.beet_forms.specs.Faults.{Reading}
use Rattle.beet_forms.specs.Rows.{rows_of}
use Rattle.beet_world.specs.Schedules.{schedule_in}
use Rattle.beet_lots.specs.LotRows.{lot_delivery_in}
use Rattle.beet_lots.specs.declared.lots.LotDelivery.{LotDelivery}

-- what a schedule for so many lots reads as
abbrev pub lot_schedule_of : ℕ → List ℕ → Reading (List LotDelivery)
lot_schedule_of lots bytes = schedule_in (lot_delivery_in lots) (codes "beet-lot-schedule") (rows_of bytes)
