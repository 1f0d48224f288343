-- The first thing by which one who knows some bidders can tell two lists of them apart, or what came of both.
use Rattle.std.specs.Prelude.{ℕ, ◌+◌, ◌&&◌, max, not, List, length, slice_get, Bool, false, find, if◌then◌else◌}
use Rattle.std.specs.Prelude.{Option, Some, None, option_map}
use Rattle.std.specs.List.{range_with_len}
use Rattle.std.specs.Option.{option_eq, option_or}
use Rattle.beet_field.specs.declared.point.Point.{Point}
use Rattle.beet_delivery.specs.Events.{same}

-- the first of so many places that passes a test
abbrev pub first_place : (ℕ → Bool) → ℕ → Option ℕ
first_place test count = find test (range_with_len 0 count)

-- whether there is one mark twice, or none
abbrev pub same_mark : Option (Option Point) → Option (Option Point) → Bool
same_mark = option_eq (option_eq same)

-- the first place that one list of marks lacks, or at which the other has another mark
abbrev pub marks_between : List (Option Point) → List (Option Point) → Option ℕ
marks_between first second =
    first_place (λ n. not (same_mark (slice_get first n) (slice_get second n))) (max (length first) (length second))

-- whether there are two, of which the first is known, that are not alike
abbrev pub other_own : {A : Type 0} → (A → Bool) → (A → A → Bool) → Option A → Option A → Bool
other_own known alike (Some one) (Some other) = known one && not (alike one other)
other_own known alike _ _ = false

-- the first place at which one that is known is not alike in the other list
abbrev pub own_between : {A : Type 0} → (A → Bool) → (A → A → Bool) → List A → List A → Option ℕ
own_between known alike first second =
    first_place (λ n. other_own known alike (slice_get first n) (slice_get second n)) (length first)

-- what came of both, if it is not alike
abbrev pub ends_between : {E F : Type 0} → (E → E → Bool) → (E → E → F) → E → E → Option F
ends_between alike told one other = if alike one other then None else Some (told one other)

-- the first of these that there is, in this order: a place at which the marks differ, one at which one that is known
-- does, and what came of both; bidders are counted from 1
abbrev pub first_difference : {F : Type 0} → (ℕ → F) → (ℕ → F) → Option ℕ → Option ℕ → Option F → Option F
first_difference shape own marks known ends =
    option_or (option_map (λ n. shape (n + 1)) marks) (option_or (option_map (λ n. own (n + 1)) known) ends)
