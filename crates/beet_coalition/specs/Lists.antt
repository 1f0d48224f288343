-- The lists of the servers as one list, and an item put into a list.
use Rattle.std.specs.Prelude.{◌-◌, ℕ, zero, suc, List, [], ◌∷◌, slice_index_or}

-- the list of a server, of the lists of all
abbrev pub at_server : List (List ℕ) → ℕ → List ℕ
at_server lists i = slice_index_or lists (i - 1) []

-- the list with an item in place of the one at a place
abbrev pub with_item : List ℕ → ℕ → ℕ → List ℕ
with_item [] l y = []
with_item (w ∷ ws) zero y = y ∷ ws
with_item (w ∷ ws) (suc l) y = w ∷ with_item ws l y
