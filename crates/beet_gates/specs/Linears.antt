-- Lets of at most three wires. The places that are left have the factor 0 and wire 0.
use Rattle.std.specs.Prelude.{ℕ, [], ◌∷◌}
use Rattle.beet_gates.specs.declared.Linear.{Linear}

-- a constant and three products of a factor and a wire
abbrev pub three_terms : ℕ → ℕ × ℕ → ℕ × ℕ → ℕ × ℕ → Linear
three_terms constant a b c = record { constant = constant; terms = a ∷ b ∷ c ∷ [] }

-- a constant and two products
abbrev pub two_terms : ℕ → ℕ × ℕ → ℕ × ℕ → Linear
two_terms constant a b = three_terms constant a b (0, 0)

-- a constant and one product
abbrev pub one_term : ℕ → ℕ × ℕ → Linear
one_term constant a = three_terms constant a (0, 0) (0, 0)
