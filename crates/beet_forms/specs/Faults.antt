-- What a file reads as: a value of its format, or the first place that breaks the format, with the reason.
use Rattle.std.specs.Prelude.{◌≡◌, ℕ, ◌+◌, List, [], ◌∷◌, Option, Some, None, option_map, Result, Ok, Err}
use Rattle.std.specs.Option.{option_or}
use Rattle.beet_forms.specs.declared.row.Row.{Row}
use Rattle.beet_forms.specs.declared.faults.FaultPlace.{FaultPlace}
use Rattle.beet_forms.specs.declared.faults.FaultPlace.TheVariants.{Row as AtRow}
use Rattle.beet_forms.specs.declared.faults.ReadFault.{ReadFault}
use Rattle.beet_forms.specs.declared.faults.ReadFault.TheVariants.{Bad, OutOfMemory}

pub record Fault : Type 0 where
  pub place : FaultPlace
  pub reason : ℕ

-- a fault at a row of a text file, for a reason
abbrev pub at_row : ℕ → ℕ → Fault
at_row number reason = record { place = AtRow number; reason = reason }

abbrev pub Reading : Type 0 → Type 0
Reading A = Result A Fault

-- a value, unless there is a fault
abbrev pub reading_of : {A : Type 0} → Option Fault → A → Reading A
reading_of None value = Ok value
reading_of (Some fault) value = Err fault

-- what one row reads as: a value, unless there is a reason against the row
abbrev pub row_reading : {A : Type 0} → ℕ → Option ℕ → A → Reading A
row_reading number reason value = reading_of (option_map (at_row number) reason) value

-- the fault of the first row that is refused, if the rows from this number on have these reasons
abbrev pub first_fault : ℕ → List (Option ℕ) → Option Fault
first_fault number [] = None
first_fault number (reason ∷ reasons) = option_or (option_map (at_row number) reason) (first_fault (number + 1) reasons)

-- the fault of the first row for which the judge has a reason; the judge is told each row's number, counted on from the
-- first
abbrev pub first_row_fault : (ℕ → Row → Option ℕ) → ℕ → List Row → Option Fault
first_row_fault judge number [] = None
first_row_fault judge number (row ∷ rows) =
    option_or (option_map (at_row number) (judge number row)) (first_row_fault judge (number + 1) rows)

-- a reader answers, as `view` shows it, exactly what the file reads as, unless memory runs out
abbrev pub Answers : {A T : Type 0} → (T → A) → Reading A → Result T ReadFault → Type 0
Answers view reading (Ok value) = reading ≡ Ok (view value)
Answers view reading (Err (Bad place reason)) = reading ≡ Err (record { place = place; reason = reason })
Answers view reading (Err OutOfMemory) = Unit {0}
