-- What one server sends in a batch, and what the numbers of the three give it.
use Rattle.std.specs.Prelude.{ℕ, ◌*◌, List, [], ◌++◌, map, length, slice_index}
use Rattle.std.specs.Int.{bit_at}
use Rattle.beet_field.specs.declared.point.Point.{Point}
use Rattle.beet_field.specs.declared.trio.Trio.{Trio}
use Rattle.beet_shamir.specs.Line.{point_of, recombined, reshared}
use Rattle.beet_gates.specs.Clear.{product_of}
use Rattle.beet_gates.specs.Each.{each}
use Rattle.beet_gates.specs.declared.Act.{Act}
use Rattle.beet_gates.specs.declared.Act.TheVariants.{Deal, Mul, Reveal, End}

-- the points at a server of the lines with these values and slopes
abbrev pub hidden : List ℕ → List ℕ → Point → List ℕ
hidden values slopes to = each (λ k. point_of (slice_index values k) (slice_index slopes k) to) (length values)

-- the numbers for a server, from the sender's points of the wires, the word that it deals and the numbers that it draws
abbrev pub numbers_for : Act → List ℕ → ℕ → List ℕ → Point → List ℕ
numbers_for Deal points word drawn to = hidden (each (bit_at word) 61) drawn to
numbers_for (Mul pairs) points word drawn to = hidden (map (product_of points) pairs.items) drawn to
numbers_for (Reveal shown) points word drawn to = map (slice_index points) shown.items
numbers_for End points word drawn to = []

-- the items at a place of three lists
abbrev pub three_at : List ℕ → List ℕ → List ℕ → ℕ → Trio ℕ
three_at one two three k = record { one = slice_index one k; two = slice_index two k; three = slice_index three k }

-- the points of the wires that the messages of the three servers give
abbrev pub points_given : Act → List ℕ → List ℕ → List ℕ → List ℕ
points_given Deal one two three = one ++ (two ++ three)
points_given (Mul pairs) one two three = each (λ k. reshared (three_at one two three k)) (length one)
points_given (Reveal shown) one two three = []
points_given End one two three = []

-- the numbers that they open
abbrev pub numbers_opened : Act → List ℕ → List ℕ → List ℕ → List ℕ
numbers_opened Deal one two three = []
numbers_opened (Mul pairs) one two three = []
numbers_opened (Reveal shown) one two three = each (λ k. recombined (three_at one two three k)) (length one)
numbers_opened End one two three = []

-- how many points of wires an act gives, if so many servers deal
abbrev pub gained_among : ℕ → Act → ℕ
gained_among servers Deal = 61 * servers
gained_among servers (Mul pairs) = length pairs.items
gained_among servers (Reveal shown) = 0
gained_among servers End = 0
