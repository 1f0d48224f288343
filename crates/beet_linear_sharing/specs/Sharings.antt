-- How secrets are shared among servers, which are numbered from 1 on.
use Rattle.std.specs.Prelude.{◌≡◌, ◌⊎◌, ◌++◌, ℕ, List, [], ◌∷◌}

-- The numbers of the servers, in order, and how many numbers hide a secret. Then the point at a server, of a secret and
-- the numbers that hide it; the point of a product, of the numbers that the servers sent for it; and the number that is
-- opened, of the points at the servers.
pub record Sharing : Type 0 where
  pub servers : List ℕ
  pub degree : ℕ
  pub share : ℕ → (ℕ → ℕ) → ℕ → ℕ
  pub reshared : (ℕ → ℕ) → ℕ
  pub opened : (ℕ → ℕ) → ℕ

-- one of these numbers
abbrev pub IsAmong : List ℕ → ℕ → Type 0
IsAmong [] j = ⊥
IsAmong (x ∷ xs) j = (j ≡ x) ⊎ IsAmong xs j

-- the lists of several servers, one after another
abbrev pub joined : (ℕ → List ℕ) → List ℕ → List ℕ
joined f [] = []
joined f (j ∷ []) = f j
joined f (j ∷ k ∷ js) = f j ++ joined f (k ∷ js)
