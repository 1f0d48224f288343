-- The rows of a schedule, one after another.
use Rattle.std.proofs.Common.{append_assoc, ◌≡◌, ℕ, ◌+◌, List, [], ◌∷◌, ◌++◌, ◌==◌, Bool, true, false, if◌then◌else◌}
use Rattle.std.proofs.Common.{drop, Some, None, Ok, Err, refl, sym, ap, ◌∙◌}
use Rattle.std.specs.Prelude.{Option, Result, codes}
use Rattle.std.specs.List.{filter_map}
use Rattle.std.specs.Option.{ok_or}
use Rattle.beet_forms.specs.declared.row.Row.{Row}
use Rattle.beet_forms.specs.Faults.{at_row, first_row_fault}
use Rattle.beet_forms.specs.Rows.{begins_with}
use Rattle.beet_world.specs.declared.schedule.TheConstants.{BAD_DELIVERY, TOO_MANY_DELIVERIES, ONE_DELIVERY_TOO_MANY}
use Rattle.beet_world.specs.Schedules.{delivery_at, reason_against, deliveries_of, schedule_in}

module _ {A : Type 0} (delivery_in : Row → Option A) where
  -- a delivery is read only where the row has one
  has-delivery : (number : ℕ) (row : Row) (delivery : A) → delivery_at delivery_in number row ≡ Ok delivery →
      delivery_in row ≡ Some delivery
  has-delivery number row delivery e = cases (number == ONE_DELIVERY_TOO_MANY) (delivery_in row) e where
    cases : (last : Bool) (read : Option A) → if◌then◌else◌ {A = Result A ℕ} last (Err TOO_MANY_DELIVERIES)
        (ok_or read BAD_DELIVERY) ≡ Ok delivery → read ≡ Some delivery
    cases true read f = cc f
    cases false None f = cc f
    cases false (Some other) f = let same : other ≡ delivery = cc f in ap Some same

  -- the rows after one with a delivery
  pub rest-accepted : (number : ℕ) (row : Row) (rows more : List Row) (delivery : A) → rows ≡ row ∷ more →
      delivery_at delivery_in number row ≡ Ok delivery →
      first_row_fault (reason_against delivery_in) (number + 1) more ≡ first_row_fault (reason_against delivery_in) number rows
  rest-accepted number row rows more delivery is e = rw (is, e) refl

  -- the deliveries up to a row with one
  pub deliveries-more : (deliveries : List A) (number : ℕ) (row : Row) (rows more all : List Row)
      (delivery : A) → rows ≡ row ∷ more →
      delivery_at delivery_in number row ≡ Ok delivery → deliveries ++ filter_map delivery_in rows ≡ filter_map delivery_in all →
      (deliveries ++ delivery ∷ []) ++ filter_map delivery_in more ≡ filter_map delivery_in all
  deliveries-more deliveries number row rows more all delivery is e so_far =
      append_assoc deliveries (delivery ∷ []) (filter_map delivery_in more)
      ∙ (sym (rw (is, has-delivery number row delivery e) refl) ∙ so_far)

  -- behind the header a schedule is its deliveries
  pub schedule-begun : (kind : List ℕ) (rows rest : List Row) → begins_with rows (kind ∷ codes "1" ∷ []) ≡ true →
      rest ≡ drop 1 rows → schedule_in delivery_in kind rows ≡ deliveries_of delivery_in rest
  schedule-begun kind rows rest begun is = rw (begun, is) refl

  -- without its first row a schedule is refused
  pub no-schedule : (kind : List ℕ) (rows : List Row) → begins_with rows (kind ∷ codes "1" ∷ []) ≡ false →
      schedule_in delivery_in kind rows ≡ Err (at_row 1 BAD_DELIVERY)
  no-schedule kind rows begun = rw begun refl
