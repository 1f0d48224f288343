-- The numbers that a deal appends: the 61 bits of the word of server 1, of server 2 and of server 3.
use Rattle.std.specs.Prelude.{ℕ, List, ◌++◌, slice_index}
use Rattle.std.specs.Int.{bit_at}
use Rattle.beet_gates.specs.Each.{each}
use Rattle.beet_field.specs.declared.trio.Trio.{Trio}

-- the bits of three words, each from the lowest up
abbrev pub dealt_bits : ℕ → ℕ → ℕ → List ℕ
dealt_bits a b c = each (bit_at a) 61 ++ (each (bit_at b) 61 ++ each (bit_at c) 61)

-- the n-th deal takes the n-th word of each server
abbrev pub deals_of : Trio (List ℕ) → ℕ → List ℕ
deals_of words n = dealt_bits (slice_index words.one n) (slice_index words.two n) (slice_index words.three n)
