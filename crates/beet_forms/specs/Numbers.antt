-- Decimal numbers of text files.
use Rattle.std.specs.Prelude.{◌≡◌, ◌≤◌, ℕ, ◌+◌, ◌*◌, ◌-◌, ◌==◌, ◌&&◌, not, nat_lt, if◌then◌else◌, List, [], ◌∷◌, length}
use Rattle.std.specs.Prelude.{slice_index, decimal, Option, Some, None, Result, Ok, Err}
use Rattle.std.specs.List.{list_all}
use Rattle.std.specs.Char.{is_ascii_digit}
use Rattle.beet_forms.specs.declared.decimals.NumberFault.{NumberFault}
use Rattle.beet_forms.specs.declared.decimals.NumberFault.TheVariants.{Empty, NotDigit, LeadingZero, TooLarge}

-- the number that the digits write after those of n
abbrev pub read_on : ℕ → List ℕ → ℕ
read_on n [] = n
read_on n (d ∷ ds) = read_on (10 * n + (d - 48)) ds

-- the number that the digits write
abbrev pub decimal_value : List ℕ → ℕ
decimal_value ds = read_on 0 ds

-- the number of a text of digits, and within that none if it is above the largest; none if a byte is no digit
abbrev pub digits_within : ℕ → List ℕ → Option (Option ℕ)
digits_within max ds =
    if list_all is_ascii_digit ds then
    Some (if nat_lt max (decimal_value ds) then None else Some (decimal_value ds)) else None

-- the number of a text, or the first fault in their order
abbrev pub number_of : List ℕ → ℕ → Result ℕ NumberFault
number_of ds max =
    if length ds == 0 then Err Empty
    else if not (list_all is_ascii_digit ds) then Err NotDigit
    else if nat_lt 1 (length ds) && (slice_index ds 0 == 48) then Err LeadingZero
    else if nat_lt max (decimal_value ds) then Err TooLarge
    else Ok (decimal_value ds)

-- what is printed of n is read as n, under each maximum that n meets
abbrev pub IsReadBack : ℕ → Type 0
IsReadBack n = (max : ℕ) → n ≤ max → number_of (decimal n) max ≡ Ok n
