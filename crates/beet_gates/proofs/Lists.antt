-- The items of lists that are cut and mapped.
use Rattle.std.proofs.Common.{◌≡◌, ℕ, ◌+◌, ◌<◌, List, [], ◌∷◌, take, drop, map, length, slice_index, slice_index_or}
use Rattle.std.proofs.Common.{Some, refl, sym, ap, ◌∙◌}
use Rattle.std.proofs.lemmas.List.{get_or-drop, get_or-map, get_or-take}
use Rattle.beet_gates.specs.Each.{each}
use Rattle.beet_gates.proofs.EachFacts.{each-zero, each-cons}

-- the items of a list after the first d, of which n are taken
pub item-taken : (d n k : ℕ) (xs : List ℕ) → k < n → slice_index (take n (drop d xs)) k ≡ slice_index xs (d + k)
item-taken d n k xs h = get_or-take n (drop d xs) k 0 h ∙ get_or-drop d xs k 0

-- the item of a mapped list
pub item-map : {A : Type 0} → (f : A → ℕ) (xs : List A) (d : A) (k : ℕ) → k < length xs →
    slice_index (map f xs) k ≡ f (slice_index_or xs k d)
item-map f xs d k h = get_or-map f xs k d 0 h

-- a list from another, by the place
pub map-places : {A : Type 0} (f : A → ℕ) (d : A) → (xs : List A) → map f xs ≡ each (λ k. f (slice_index_or xs k d)) (length xs)
map-places f d [] = sym (each-zero (λ k. f (slice_index_or [] k d)))
map-places f d (x ∷ xs) = ap (λ l. f x ∷ l) (map-places f d xs) ∙ sym (each-cons (λ k. f (slice_index_or (x ∷ xs) k d)) (length xs))

-- a list that a rule gives, for the items of another
pub each-map : (g : ℕ → ℕ) (xs : List ℕ) → each (λ k. g (slice_index xs k)) (length xs) ≡ map g xs
each-map g xs = sym (map-places g 0 xs)

-- two functions that agree
pub map-same : (f g : ℕ → ℕ) → ((w : ℕ) → f w ≡ g w) → (ws : List ℕ) → map f ws ≡ map g ws
map-same f g same [] = refl
map-same f g same (w ∷ ws) = λ j. same w j ∷ map-same f g same ws j

-- lists that are read at the same wires
pub over_wires : (wires : List ℕ) (f f' g g' : ℕ → ℕ) → ((w : ℕ) → f' w ≡ f w → g' w ≡ g w) → map f' wires ≡ map f wires →
    map g' wires ≡ map g wires
over_wires [] f f' g g' step e = refl
over_wires (w ∷ ws) f f' g g' step e =
    let here : f' w ≡ f w = cc in
    let others : map f' ws ≡ map f ws = cc in
    let first = step w here in
    let rest = over_wires ws f f' g g' step others in λ i. first i ∷ rest i

-- a place has one item
pub from-some : {A : Type 0} {x y : A} → Some x ≡ Some y → x ≡ y
from-some e = cc e
