-- Weights that give the value at 0 of a polynomial from its values at 1, 2 and so on, if its degree is below their
-- number.
use Rattle.std.specs.Prelude.{◌≡◌, ◌<◌, ◌+◌, ◌-◌, ◌*◌, ◌%◌, ◌^◌, ℕ, List, [], ◌∷◌, length}
use Rattle.beet_field.specs.Field.{p}

-- 3, -3 and 1
abbrev pub three_weights : List ℕ
three_weights = 3 ∷ (p - 3) ∷ 1 ∷ []

-- 5, -10, 10, -5 and 1
abbrev pub five_weights : List ℕ
five_weights = 5 ∷ (p - 10) ∷ 10 ∷ (p - 5) ∷ 1 ∷ []

-- the sum of w_i * i^k, where the first of the weights is that of i
abbrev pub power_sum : List ℕ → ℕ → ℕ → ℕ
power_sum [] i k = 0
power_sum (w ∷ ws) i k = w * i ^ k + power_sum ws (i + 1) k

-- the constant 1 has the weighted sum 1, and each power below the number of weights has the weighted sum 0
pub record AreWeights (ws : List ℕ) : Type 0 where
  pub one : power_sum ws 1 0 % p ≡ 1
  pub none : (k : ℕ) → 0 < k → k < length ws → power_sum ws 1 k % p ≡ 0

-- the sum of the products of weights and numbers
abbrev pub weighted : List ℕ → List ℕ → ℕ
weighted [] xs = 0
weighted (w ∷ ws) [] = 0
weighted (w ∷ ws) (x ∷ xs) = w * x + weighted ws xs
