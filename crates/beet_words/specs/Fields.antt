-- Binary files: numbers of 8 bytes, the highest byte first, one after another.
use Rattle.std.specs.Prelude.{ℕ, zero, suc, ◌+◌, ◌||◌, nat_eq, nat_lt, if◌then◌else◌, List, [], ◌∷◌, length, take, drop}
use Rattle.std.specs.Prelude.{Ok, Err}
use Rattle.std.specs.List.{starts_with}
use Rattle.std.specs.Int.{w64, from_be_bytes, to_be_bytes}
use Rattle.beet_forms.specs.Faults.{Fault, Reading}
use Rattle.beet_forms.specs.declared.faults.FaultPlace.TheVariants.{At}
use Rattle.beet_words.specs.declared.fields.Allowed.{Allowed}

-- the second step, with the value of the first, or the fault of the first
infixl 10 ◌>>=◌
abbrev pub ◌>>=◌ : {A B : Type 0} → Reading A → (A → Reading B) → Reading B
(Ok value) >>= next = next value
(Err fault) >>= next = Err fault

-- a fault at an offset, for a reason
abbrev pub at_offset : ℕ → ℕ → Fault
at_offset offset reason = record { place = At offset; reason = reason }

-- a part of a file: from the offset where it begins to its value and the offset after it
abbrev pub Part : Type 0 → Type 0
Part A = ℕ → Reading (A × ℕ)

-- the eight bytes at an offset as a number
abbrev pub eight_bytes_at : List ℕ → ℕ → ℕ
eight_bytes_at bytes at = from_be_bytes w64 (take 8 (drop at bytes))

-- the eight bytes of a number
abbrev pub number_bytes : ℕ → List ℕ
number_bytes n = to_be_bytes w64 n

-- a number, which is whole and then within its limits
abbrev pub number_at : List ℕ → Allowed → Part ℕ
number_at bytes allowed at =
    if nat_lt (length bytes) (at + 8) then Err (at_offset at allowed.truncated)
    else if nat_lt (eight_bytes_at bytes at) allowed.low || nat_lt allowed.high (eight_bytes_at bytes at)
    then Err (at_offset at allowed.outside)
    else Ok (eight_bytes_at bytes at, at + 8)

-- so many parts, one after another
unfoldable pub times : {A : Type 0} → ℕ → Part A → Part (List A)
times zero part at = Ok ([], at)
times (suc count) part at = do
  first ← part at
  others ← times count part first.1
  Ok (first.0 ∷ others.0, others.1)

-- a count, and so many parts
unfoldable pub counted_at : {A : Type 0} → List ℕ → Allowed → Part A → Part (List A)
counted_at bytes allowed part at = do
  count ← number_at bytes allowed at
  times count.0 part count.1

-- the offset after the text that a file begins with
abbrev pub after_magic : List ℕ → List ℕ → ℕ → Reading ℕ
after_magic bytes magic reason = if starts_with nat_eq bytes magic then Ok (length magic) else Err (at_offset 0 reason)

-- the file ends at the offset
abbrev pub ended : List ℕ → ℕ → ℕ → Reading Unit
ended bytes reason at = if nat_lt at (length bytes) then Err (at_offset at reason) else Ok tt
