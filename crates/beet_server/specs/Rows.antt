-- Lists that lie one after another.
use Rattle.std.specs.Prelude.{◌≡◌, ◌≤◌, ◌-◌, ℕ, List, [], ◌∷◌, take, drop}

pub record Rows : Type 0 where
  pub rows : List (List ℕ)
  pub count : ℕ
  pub items_room : ℕ
  pub ends_room : ℕ

-- the lists between these ends
abbrev pub rows_of : List ℕ → ℕ → List ℕ → List (List ℕ)
rows_of items start [] = []
rows_of items start (e ∷ es) = take (e - start) (drop start items) ∷ rows_of items e es

-- the ends are in order, and the last is here
abbrev pub AreEnds : ℕ → List ℕ → ℕ → Type 0
AreEnds start [] n = start ≡ n
AreEnds start (e ∷ es) n = (start ≤ e) × AreEnds e es n
