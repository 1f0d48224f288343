-- The deliveries of a schedule are of the lots that there are.
use Rattle.std.proofs.Common.{◌≡◌, ◌<◌, ◌≤◌, ◌-◌, ◌==◌, ℕ, Bool, true, false, if◌then◌else◌, List, [], ◌∷◌}
use Rattle.std.proofs.Common.{filter_map, All, Option, Some, None, Result, Ok, Err, IfOk, Vec, Global, drop, refl, arith, subst}
use Rattle.std.specs.Prelude.{codes}
use Rattle.std.specs.List.{cons_option}
use Rattle.std.proofs.lemmas.Grind.{common_steps}
use Rattle.std.proofs.lemmas.List.Elements.{All-cons, All-nil}
use Rattle.beet_forms.specs.declared.decimals.NumberFault.{NumberFault}
use Rattle.beet_forms.specs.declared.faults.ReadFault.{ReadFault}
use Rattle.beet_forms.specs.declared.row.Row.{Row}
use Rattle.beet_forms.specs.Faults.{Answers, Fault, Reading, at_row, first_row_fault, reading_of}
use Rattle.beet_forms.specs.Numbers.{number_of}
use Rattle.beet_forms.specs.Rows.{begins_with, four_of, rows_of}
use Rattle.beet_forms.proofs.RoundTrip.{number-within}
use Rattle.beet_world.specs.Schedules.{delivery_named, reason_against, schedule_in}
use Rattle.beet_world.specs.declared.schedule.Delivery.{Delivery}
use Rattle.beet_world.specs.declared.schedule.TheConstants.{BAD_DELIVERY}
use Rattle.beet_lots.specs.LotRows.{in_lot, lot_delivery_in, lot_delivery_of_fields, lot_named, lot_numbered}
use Rattle.beet_lots.specs.declared.lots.LotDelivery.{LotDelivery}
use Rattle.beet_lot_files.specs.LotSchedules.{lot_schedule_of}

not-zero : (n : ℕ) → (n == 0) ≡ false → 1 ≤ n
not-zero n h = grind (arith, common_steps)

-- a lot that is named is one of those
named-within : (lots : ℕ) (field : List ℕ) (lot : ℕ) → lot_named lots field ≡ Some lot → lot < lots
named-within lots field lot e = cases (number_of field lots) (number-within field lots) e where
  minus : (number : ℕ) → number ≤ lots → (zero : Bool) → (number == 0) ≡ zero →
      if◌then◌else◌ {A = Option ℕ} zero None (Some (number - 1)) ≡ Some lot → lot < lots
  minus number le true is f = cc f
  minus number le false is f =
      let same : number - 1 ≡ lot = cc f in
      let some = not-zero number is in
      omega (arith, same, some, le)

  cases : (r : Result ℕ NumberFault) → ((n : ℕ) → r ≡ Ok n → n ≤ lots) → lot_numbered r ≡ Some lot → lot < lots
  cases (Ok number) h f = minus number (h number refl) (number == 0) refl f
  cases (Err fault) h f = cc f

-- so is the lot of the delivery of a row
row-within : (lots : ℕ) (row : Row) (delivery : LotDelivery) → lot_delivery_in lots row ≡ Some delivery → delivery.lot < lots
row-within lots row delivery e = cases (four_of row) e where
  parts : (lot : Option ℕ) (message : Option Delivery) → ((n : ℕ) → lot ≡ Some n → n < lots) → in_lot lot message ≡ Some delivery →
      delivery.lot < lots
  parts (Some lot) (Some message) h f =
      let same : record { lot = lot; delivery = message } ≡ delivery = cc f in
      subst (λ (d : LotDelivery). d.lot < lots) same (h lot refl)
  parts (Some lot) None h f = cc f
  parts None message h f = cc f

  cases : (fields : Option (List ℕ × List ℕ × List ℕ × List ℕ)) → lot_delivery_of_fields lots fields ≡ Some delivery →
      delivery.lot < lots
  cases (Some (lot, from, to, round)) f = parts (lot_named lots lot) (delivery_named from to round) (named-within lots lot) f
  cases None f = cc f

-- what holds of each value that is found holds of all
filter_map-all : {X Y : Type 0} (P : Y → Type 0) (f : X → Option Y) → ((x : X) (y : Y) → f x ≡ Some y → P y) → (xs : List X) →
    All P (filter_map f xs)
filter_map-all P f h [] = All-nil P
filter_map-all {X = X} {Y = Y} P f h (x ∷ xs) = go (f x) refl (filter_map-all P f h xs) where
  go : (o : Option Y) → f x ≡ o → All P (filter_map f xs) → All P (cons_option o (filter_map f xs))
  go None is rest = rest
  go (Some y) is rest = All-cons P y (filter_map f xs) (h x y is) rest

-- the deliveries of a schedule that is read are those of its rows
deliveries-read : {A : Type 0} (delivery_in : Row → Option A) (kind : List ℕ) (rows : List Row) (deliveries : List A) →
    schedule_in delivery_in kind rows ≡ Ok deliveries → filter_map delivery_in (drop 1 rows) ≡ deliveries
deliveries-read {A = A} delivery_in kind rows deliveries e =
    cases (begins_with rows (kind ∷ codes "1" ∷ [])) (first_row_fault (reason_against delivery_in) 2 (drop 1 rows)) e where
      cases : (begun : Bool) (fault : Option Fault) → if◌then◌else◌ {A = Reading (List A)} begun
          (reading_of fault (filter_map delivery_in (drop 1 rows))) (Err (at_row 1 BAD_DELIVERY)) ≡ Ok deliveries →
          filter_map delivery_in (drop 1 rows) ≡ deliveries
      cases true None f = cc f
      cases true (Some fault) f = cc f
      cases false fault f = cc f

pub lots-within : (lots : ℕ) (bytes : List ℕ) (result : Result (Vec LotDelivery Global) ReadFault) →
    Answers (λ deliveries. deliveries.items) (lot_schedule_of lots bytes) result →
    IfOk result (λ deliveries. All (λ delivery. delivery.lot < lots) deliveries.items)
lots-within lots bytes (Ok deliveries) a =
    subst (All (λ (delivery : LotDelivery). delivery.lot < lots))
    (deliveries-read (lot_delivery_in lots) (codes "beet-lot-schedule") (rows_of bytes) deliveries.items a)
    (filter_map-all (λ (delivery : LotDelivery). delivery.lot < lots) (lot_delivery_in lots) (row-within lots) (drop 1 (rows_of bytes)))
lots-within lots bytes (Err fault) a = tt
