-- What a server hides or shows for an act, and what the numbers of all servers give, among any number of servers.
use Rattle.std.specs.Prelude.{ℕ, List, [], map, length, slice_index, Bool, true, false}
use Rattle.std.specs.Int.{bit_at}
use Rattle.beet_gates.specs.Clear.{product_of}
use Rattle.beet_gates.specs.Each.{each}
use Rattle.beet_gates.specs.declared.Act.{Act}
use Rattle.beet_gates.specs.declared.Act.TheVariants.{Deal, Mul, Reveal, End}

-- what a server hides or shows for an act, from its points of the wires and the word that it deals
abbrev pub values_of : Act → List ℕ → ℕ → List ℕ
values_of Deal points word = each (bit_at word) 61
values_of (Mul pairs) points word = map (product_of points) pairs.items
values_of (Reveal shown) points word = map (slice_index points) shown.items
values_of End points word = []

-- the points of the wires that an act gives, from all numbers of the servers, and the new point of each product
abbrev pub points_by : Act → List ℕ → (Bool → ℕ → ℕ) → List ℕ
points_by Deal all made = all
points_by (Mul pairs) all made = each (made false) (length pairs.items)
points_by (Reveal shown) all made = []
points_by End all made = []

-- the numbers that it opens
abbrev pub numbers_by : Act → (Bool → ℕ → ℕ) → List ℕ
numbers_by Deal made = []
numbers_by (Mul pairs) made = []
numbers_by (Reveal shown) made = each (made true) (length shown.items)
numbers_by End made = []
