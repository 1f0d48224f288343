-- A list of items that is combined in pairs, level by level: items 0 and 1, items 2 and 3, and so on. The next list has
-- the results in order, and after them an odd last item, which is carried.
use Rattle.std.specs.Prelude.{◌≡◌, ◌<◌, ◌+◌, ◌-◌, ◌*◌, ◌/◌, ◌%◌, ◌⊎◌, ℕ, List, nat_lt, if◌then◌else◌}
use Rattle.beet_gates.specs.Each.{each}
use Rattle.beet_gates.specs.declared.levels.LevelItems.{LevelItems}

-- the places of the items of a pair
abbrev pub places_of_pair : ℕ → ℕ × ℕ
places_of_pair i = (2 * i, 2 * i + 1)

-- how many items the list after one of n items has
abbrev pub next_length : ℕ → ℕ
next_length n = n / 2 + n % 2

-- the item of the next list at a place, after a list of n items
abbrev pub next_item : {A : Type 0} → ℕ → (ℕ → A) → (ℕ → A) → ℕ → A
next_item n item result k = if nat_lt k (n / 2) then result k else item (n - 1)

-- what a rule says of the items of each pair, in order, in a list of n items
abbrev pub each_pair : {A B : Type 0} → (A → A → B) → (ℕ → A) → ℕ → List B
each_pair op item n = each (λ i. op (item (places_of_pair i).0) (item (places_of_pair i).1)) (n / 2)

abbrev pub wire_of : LevelItems → ℕ → ℕ
wire_of items k = if nat_lt k items.results then items.start + items.step * k else items.carried

-- an item of a pair
abbrev pub IsInPair : ℕ → ℕ × ℕ → Type 0
IsInPair k pair = (k ≡ pair.0) ⊎ (k ≡ pair.1)

-- of n items the one at a place stands in exactly one pair
pub record IsPaired (n k : ℕ) : Type 0 where
  pub pair : ℕ
  pub there : pair < n / 2
  pub stands : IsInPair k (places_of_pair pair)
  pub only : (i : ℕ) → IsInPair k (places_of_pair i) → i ≡ pair

-- it is the last one of an odd number of items, and stands in no pair
pub record IsCarried (n k : ℕ) : Type 0 where
  pub odd : n % 2 ≡ 1
  pub last : k ≡ n - 1
  pub unpaired : (i : ℕ) → i < n / 2 → ¬ (IsInPair k (places_of_pair i))
