-- Ranges of a list, one after another.
use Rattle.std.proofs.Common.{◌≡◌, ◌≤◌, ℕ, ◌+◌, ◌-◌, List, ◌++◌, length, arith, ap, ◌∙◌}
use Rattle.std.specs.List.{slice_range}
use Rattle.std.proofs.Math.ListN.{drop, take}
use Rattle.std.proofs.Math.Seq.{take-add, take-length}
use Rattle.std.proofs.lemmas.List.{drop-drop, length-take, length-drop}

-- a range, and the one after it
pub range-joined : {X : Type 0} (xs : List X) (from count more : ℕ) →
    slice_range xs from (from + (count + more)) ≡ slice_range xs from (from + count) ++ slice_range xs (from + count) (from + count + more)
range-joined xs from count more =
    let whole : from + (count + more) - from ≡ count + more = omega arith in
    let few : from + count - from ≡ count = omega arith in
    let rest : from + count + more - (from + count) ≡ more = omega arith in
    rw (whole, few, rest) (take-add count more (drop from xs)
    ∙ ap (λ ys. take count (drop from xs) ++ take more ys) (drop-drop count from xs))

-- how many items a range has
pub range-length : {X : Type 0} (xs : List X) (from count : ℕ) → from + count ≤ length xs →
    length (slice_range xs from (from + count)) ≡ count
range-length xs from count within =
    omega (arith, within, length-take (from + count - from) (drop from xs), length-drop from xs)

-- the range of all items
pub range-all : {X : Type 0} (xs : List X) → slice_range xs 0 (0 + length xs) ≡ xs
range-all xs = let all : 0 + length xs - 0 ≡ length xs = omega arith in rw all (take-length xs)
