-- A polynomial of degree at most two is a value and two coefficients: value + first * i + second * i^2.
use Rattle.std.specs.Prelude.{◌≤◌, ◌+◌, ◌*◌, ◌%◌, ℕ, List, [], ◌∷◌}
use Rattle.beet_field.specs.Field.{p}
use Rattle.beet_weights.specs.Weights.{three_weights, five_weights, weighted}

-- the point at i
abbrev pub point_of : ℕ → ℕ → ℕ → ℕ → ℕ
point_of value first second i = (value + first * i + second * (i * i)) % p

-- the servers, by number
abbrev pub servers : List ℕ
servers = 1 ∷ 2 ∷ 3 ∷ 4 ∷ 5 ∷ []

-- the number of a server
abbrev pub IsServer : ℕ → Type 0
IsServer i = (1 ≤ i) × (i ≤ 5)

-- of each server, in order
abbrev pub of_five : {A : Type 0} → (ℕ → A) → List A
of_five f = f 1 ∷ f 2 ∷ f 3 ∷ f 4 ∷ f 5 ∷ []

-- the share of a product, of the numbers that the five servers sent for it
abbrev pub reshared : (ℕ → ℕ) → ℕ
reshared received = weighted five_weights (of_five received) % p

-- the value of the polynomial through the points at 1, 2 and 3
abbrev pub recombined : (ℕ → ℕ) → ℕ
recombined points = weighted three_weights (points 1 ∷ points 2 ∷ points 3 ∷ []) % p
