-- The line that is printed for a file that breaks its format.
use Rattle.std.specs.Prelude.{ℕ, List, ◌++◌, decimal, codes}
use Rattle.beet_forms.specs.declared.faults.FaultPlace.{FaultPlace}
use Rattle.beet_forms.specs.declared.faults.FaultPlace.TheVariants.{Row, At}

-- where the fault is, in words
abbrev pub place_text : FaultPlace → List ℕ
place_text (Row number) = codes "row " ++ decimal number
place_text (At offset) = codes "at " ++ decimal offset

-- the line: the file, the place and the reason, with a newline
abbrev pub fault_line_of : List ℕ → FaultPlace → ℕ → List ℕ
fault_line_of file place reason =
    codes "bad file: " ++ file ++ codes " " ++ place_text place ++ codes " reason " ++ decimal reason ++ codes "\n"
