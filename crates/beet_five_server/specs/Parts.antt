-- What one server sends in a batch, and what the numbers of the five give it.
use Rattle.std.specs.Prelude.{ℕ, zero, suc, ◌+◌, ◌*◌, List, [], map, length, slice_index}
use Rattle.std.specs.Int.{bit_at}
use Rattle.beet_gates.specs.Clear.{product_of}
use Rattle.beet_gates.specs.Each.{each}
use Rattle.beet_gates.specs.declared.Act.{Act}
use Rattle.beet_gates.specs.declared.Act.TheVariants.{Deal, Mul, Reveal, End}
use Rattle.beet_linear_sharing.specs.Sharings.{joined}
use Rattle.beet_weights.specs.Quadratics.{point_of, recombined, reshared, servers}

-- the points at a server of the polynomials with these values, each with the next two of the numbers drawn as its
-- coefficients
abbrev pub hidden : List ℕ → List ℕ → ℕ → List ℕ
hidden values drawn to =
    each (λ k. point_of (slice_index values k) (slice_index drawn (2 * k)) (slice_index drawn (2 * k + 1)) to)
    (length values)

-- the numbers for a server, from the sender's points of the wires, the word that it deals and the numbers that it draws
abbrev pub numbers_for : Act → List ℕ → ℕ → List ℕ → ℕ → List ℕ
numbers_for Deal points word drawn to = hidden (each (bit_at word) 61) drawn to
numbers_for (Mul pairs) points word drawn to = hidden (map (product_of points) pairs.items) drawn to
numbers_for (Reveal shown) points word drawn to = map (slice_index points) shown.items
numbers_for End points word drawn to = []

-- the points of the wires that the messages of the five servers give, each by its sender
abbrev pub points_given : Act → (ℕ → List ℕ) → List ℕ
points_given Deal from = joined from servers
points_given (Mul pairs) from = each (λ k. reshared (λ j. slice_index (from j) k)) (length pairs.items)
points_given (Reveal shown) from = []
points_given End from = []

-- the numbers that they open
abbrev pub numbers_opened : Act → (ℕ → List ℕ) → List ℕ
numbers_opened Deal from = []
numbers_opened (Mul pairs) from = []
numbers_opened (Reveal shown) from = each (λ k. recombined (λ j. slice_index (from j) k)) (length shown.items)
numbers_opened End from = []

-- what is of a sender, if these are of the five
abbrev pub by_sender : {A : Type 0} → A → A → A → A → A → ℕ → A
by_sender one two three four five zero = one
by_sender one two three four five (suc zero) = one
by_sender one two three four five (suc (suc zero)) = two
by_sender one two three four five (suc (suc (suc zero))) = three
by_sender one two three four five (suc (suc (suc (suc zero)))) = four
by_sender one two three four five (suc (suc (suc (suc (suc i))))) = five
