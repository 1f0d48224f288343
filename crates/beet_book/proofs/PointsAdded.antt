-- The points of several bidders, added up.
use Rattle.std.proofs.Common.{◌≡◌, ℕ, ◌+◌, ◌*◌, ◌%◌, ◌<◌, List, [], ◌∷◌, ◌++◌, length, arith, sym, ◌∙◌, ap, subst}
use Rattle.std.specs.Prelude.{replicate, sum_by, slice_index}
use Rattle.std.proofs.lemmas.List.{get_or-replicate, length-replicate}
use Rattle.std.proofs.lemmas.List.Sums.{sum_by_push}
use Rattle.std.proofs.lemmas.Grind.{same_number_lists}
use Rattle.beet_field.specs.Field.{p, add_of}
use Rattle.beet_field.specs.Trio.{member}
use Rattle.beet_field.specs.declared.point.Point.{Point}
use Rattle.beet_field.specs.declared.point.Point.TheVariants.{One, Two, Three}
use Rattle.beet_field.specs.declared.trio.Trio.{Trio}
use Rattle.beet_gates.specs.Each.{each}
use Rattle.beet_gates.proofs.EachFacts.{length-each, item-each}
use Rattle.beet_book.specs.Dealing.{HasLengths}
use Rattle.beet_bids.specs.Grids.{Grid}
use Rattle.beet_book.specs.Totals.{Totals, field_sums, added, none_of}
use Rattle.beet_book.specs.PointSums.{AddsUp, sum_at, sums_at}
use Rattle.beet_book.proofs.Sums.{sums-by_item}

pub one-more : (total point : ℕ) → (total + point) % p ≡ add_of (total % p) point
one-more total point = omega arith

none-at : (prices : ℕ) (s : Point) → replicate (2 * prices) 0 ≡ each (sum_at [] s) (2 * prices)
none-at prices s =
    let n = 2 * prices in
    same_number_lists (replicate n 0) (each (sum_at [] s) n) (length-replicate {A = ℕ} n 0 ∙ sym (length-each (sum_at [] s) n))
    (λ k lt.
    let within : k < n = omega (arith, length-replicate {A = ℕ} n 0) in
    get_or-replicate n k 0 0 within ∙ sym (item-each (sum_at [] s) n k within))

-- the sums of no bidder
pub sums-none : (prices : ℕ) → none_of prices ≡ record { prices = prices; points = sums_at prices [] }
sums-none prices = λ j. record {
  prices = prices;
  points = record { one = none-at prices One j; two = none-at prices Two j; three = none-at prices Three j };
}

more-at : (prices : ℕ) (bidders : List (Trio (List ℕ))) (points : Trio (List ℕ)) (s : Point) → length (member points s) ≡ 2 * prices →
    each (sum_at (bidders ++ points ∷ []) s) (2 * prices) ≡ field_sums (each (sum_at bidders s) (2 * prices)) (member points s)
more-at prices bidders points s long =
    let n = 2 * prices in
    let before = length-each (sum_at bidders s) n in
    let after = length-each (sum_at (bidders ++ points ∷ []) s) n in
    sums-by_item (each (sum_at bidders s) n) (member points s) (each (sum_at (bidders ++ points ∷ []) s) n) (omega arith) (omega arith)
    (λ k lt.
    let within : k < n = omega arith in
    item-each (sum_at (bidders ++ points ∷ []) s) n k within
    ∙ ap (λ total. total % p) (sum_by_push (λ points. slice_index (member points s) k) bidders points)
    ∙ one-more (sum_by (λ points. slice_index (member points s) k) bidders) (slice_index (member points s) k)
    ∙ ap (λ total. add_of total (slice_index (member points s) k)) (sym (item-each (sum_at bidders s) n k within)))

-- the sums with one bidder more
pub sums-more : (prices : ℕ) (bidders : List (Trio (List ℕ))) (points : Trio (List ℕ)) → HasLengths points (2 * prices) →
    added (sums_at prices bidders) points ≡ sums_at prices (bidders ++ points ∷ [])
sums-more prices bidders points long = λ j. record {
  one = sym (more-at prices bidders points One long.one) j;
  two = sym (more-at prices bidders points Two long.two) j;
  three = sym (more-at prices bidders points Three long.three) j;
}

-- the totals of no bidder
pub added-none : (grid : Grid) (totals : Totals) → totals ≡ none_of grid.prices → AddsUp grid totals []
added-none grid totals e = e ∙ sums-none grid.prices

-- and with one bidder more
pub added-more : (grid : Grid) (bidders : List (Trio (List ℕ))) (points : Trio (List ℕ)) (before after : Totals) →
    AddsUp grid before bidders → HasLengths points (2 * grid.prices) → after ≡ record before { points = added before.points points } →
    AddsUp grid after (bidders ++ points ∷ [])
added-more grid bidders points before after h long a =
    a ∙ ap (λ (t : Totals). record t { points = added t.points points }) h
    ∙ ap (λ (sums : Trio (List ℕ)). record { prices = grid.prices; points = sums }) (sums-more grid.prices bidders points long)

-- points have lengths as the totals have them to which they are added
pub lengths-added : (grid : Grid) (bidders : List (Trio (List ℕ))) (points : Trio (List ℕ)) (totals : Totals) →
    AddsUp grid totals bidders → HasLengths points (2 * grid.prices) → HasLengths points (2 * totals.prices)
lengths-added grid bidders points totals h long = subst (λ (t : Totals). HasLengths points (2 * t.prices)) (sym h) long
