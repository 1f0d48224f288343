-- The numbers that a server draws for an act, and what each hides.
use Rattle.std.specs.Prelude.{ℕ, ◌*◌, ◌==◌, if◌then◌else◌, List, length, slice_index_or}
use Rattle.std.specs.Int.{bit_at}
use Rattle.beet_gates.specs.Clear.{product_of}
use Rattle.beet_gates.specs.declared.Act.{Act}
use Rattle.beet_gates.specs.declared.Act.TheVariants.{Deal, Mul, Reveal, End}

-- how many numbers each server draws for an act
abbrev pub draws_in : Act → ℕ
draws_in Deal = 61
draws_in (Mul pairs) = length pairs.items
draws_in (Reveal shown) = 0
draws_in End = 0

-- the pair at a place
abbrev pub pair_at : List (ℕ × ℕ) → ℕ → ℕ × ℕ
pair_at pairs k = slice_index_or pairs k (0, 0)

-- what the k-th number that a server draws for an act hides: a bit of the word that it deals, or the product of its
-- points of a pair
abbrev pub secret_of : Act → List ℕ → ℕ → ℕ → ℕ
secret_of Deal points word k = bit_at word k
secret_of (Mul pairs) points word k = product_of points (pair_at pairs.items k)
secret_of (Reveal shown) points word k = 0
secret_of End points word k = 0

-- how many numbers a server draws among so many, for so many secrets
abbrev pub drawn_among : ℕ → ℕ → ℕ
drawn_among servers secrets = if servers == 5 then 2 * secrets else secrets
