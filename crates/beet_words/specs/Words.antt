-- Words of 61 bits. Those that are not all ones are drawn as numbers of the field.
use Rattle.std.specs.Prelude.{ℕ, ◌^◌, ◌<◌, ◌==◌, not, Bool, List, filter, map}
use Rattle.beet_field.specs.Field.{p}

-- a number of 61 bits
abbrev pub IsWord : ℕ → Type 0
IsWord n = n < 2 ^ 61

-- the word whose bits are all ones
abbrev pub ones : ℕ
ones = p

-- the words that are drawn as numbers, in order
abbrev pub accepted : List ℕ → List ℕ
accepted words = filter (λ w. not (w == ones)) words

-- the places of the words that are all ones
abbrev pub ones_in : List ℕ → List Bool
ones_in words = map (λ w. w == ones) words
