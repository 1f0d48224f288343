-- A function of two lists, item by item.
use Rattle.std.proofs.Common.{◌≡◌, ℕ, ◌<◌, ◌≤◌, List, length, get_or, take, min, arith, ◌∙◌, ap, sym}
use Rattle.std.specs.List.{zip}
use Rattle.std.proofs.lemmas.List.{get_or-map, get_or-take, length-map, length-take-le}
use Rattle.std.proofs.lemmas.Grind.{same_number_lists}
use Rattle.std.proofs.lemmas.Slice.Zip.{length-zip, get_or-zip}
use Rattle.beet_book.specs.Dealing.{pairwise}

pub length-pairwise : (f : ℕ → ℕ → ℕ) (xs ys : List ℕ) → length (pairwise f xs ys) ≡ min (length xs) (length ys)
unfolding pairwise
length-pairwise f xs ys = length-map (zip xs ys) (λ pair. f pair.0 pair.1) ∙ length-zip xs ys

-- the item at a place that both lists have
pub item-pairwise : (f : ℕ → ℕ → ℕ) (xs ys : List ℕ) (k : ℕ) → k < length xs → k < length ys →
    get_or (pairwise f xs ys) k 0 ≡ f (get_or xs k 0) (get_or ys k 0)
unfolding pairwise
item-pairwise f xs ys k h i =
    let within : k < length (zip xs ys) = omega (arith, length-zip xs ys) in
    get_or-map (λ pair. f pair.0 pair.1) (zip xs ys) k (0, 0) 0 within ∙ ap (λ pair. f pair.0 pair.1) (get_or-zip xs ys k (0, 0) h i)

-- items that the other list has not are not looked at
pub pairwise-front : (f : ℕ → ℕ → ℕ) (xs ys : List ℕ) → length xs ≤ length ys → pairwise f xs (take (length xs) ys) ≡ pairwise f xs ys
pairwise-front f xs ys h =
    let n = length xs in
    let short : length (take n ys) ≡ n = length-take-le n ys h in
    same_number_lists (pairwise f xs (take n ys)) (pairwise f xs ys)
    (omega (arith, length-pairwise f xs (take n ys), length-pairwise f xs ys))
    (λ k lt.
    let within : k < n = omega (arith, length-pairwise f xs (take n ys)) in
    item-pairwise f xs (take n ys) k within (omega arith)
    ∙ ap (λ y. f (get_or xs k 0) y) (get_or-take n ys k 0 within)
    ∙ sym (item-pairwise f xs ys k within (omega arith)))
