-- The sums of the bidders of two lists.
use Rattle.std.proofs.Common.{◌≡◌, ℕ, ◌+◌, ◌*◌, ◌%◌, ◌<◌, List, ◌++◌, get_or, arith, sym, ◌∙◌, ap}
use Rattle.std.specs.Prelude.{sum_by, slice_index}
use Rattle.std.proofs.lemmas.List.Sums.{sum_by-append}
use Rattle.std.proofs.lemmas.Grind.{same_number_lists}
use Rattle.beet_field.specs.Field.{p, add_of}
use Rattle.beet_field.specs.Trio.{member}
use Rattle.beet_field.specs.declared.point.Point.TheVariants.{One, Two, Three}
use Rattle.beet_field.specs.declared.trio.Trio.{Trio}
use Rattle.beet_gates.specs.Each.{each}
use Rattle.beet_gates.proofs.EachFacts.{length-each, item-each}
use Rattle.beet_bids.specs.Curves.{Curve, quantity}
use Rattle.beet_book.specs.Farmers.{BidderWithWords, point_for, summed_points}
use Rattle.beet_book.specs.PointSums.{sums_at}
use Rattle.beet_book.specs.Totals.{field_sums, added, plain_sums, summed_quantities}
use Rattle.beet_book.proofs.Pairs.{length-pairwise, item-pairwise}
use Rattle.beet_book.proofs.Sums.{sums-by_item}
use Rattle.beet_book.proofs.Summed.{length-summed, item-summed}

two-sums : (a b : ℕ) → (a + b) % p ≡ add_of (a % p) (b % p)
two-sums a b = omega arith

joined-at : {A : Type 0} (term : A → ℕ → ℕ) (few rest : List A) (n : ℕ) →
    each (λ k. sum_by (λ item. term item k) (few ++ rest) % p) n
    ≡ field_sums (each (λ k. sum_by (λ item. term item k) few % p) n) (each (λ k. sum_by (λ item. term item k) rest % p) n)
joined-at {A} term few rest n =
    let sums : List A → ℕ → ℕ = λ items k. sum_by (λ item. term item k) items % p in
    let front = length-each (sums few) n in
    let back = length-each (sums rest) n in
    let whole = length-each (sums (few ++ rest)) n in
    sums-by_item (each (sums few) n) (each (sums rest) n) (each (sums (few ++ rest)) n) (omega arith) (omega arith)
    (λ k lt.
    let within : k < n = omega arith in
    item-each (sums (few ++ rest)) n k within
    ∙ ap (λ total. total % p) (sum_by-append (λ item. term item k) few rest)
    ∙ two-sums (sum_by (λ item. term item k) few) (sum_by (λ item. term item k) rest)
    ∙ ap (λ total. add_of total (sum_by (λ item. term item k) rest % p)) (sym (item-each (sums few) n k within))
    ∙ ap (λ total. add_of (get_or (each (sums few) n) k 0) total) (sym (item-each (sums rest) n k within)))

-- the points of both are the points of each, added up
pub points-joined : (prices : ℕ) (few rest : List BidderWithWords) →
    summed_points prices (few ++ rest) ≡ added (summed_points prices few) (summed_points prices rest)
points-joined prices few rest = λ j. record {
  one = joined-at (λ farmer. point_for farmer One) few rest (2 * prices) j;
  two = joined-at (λ farmer. point_for farmer Two) few rest (2 * prices) j;
  three = joined-at (λ farmer. point_for farmer Three) few rest (2 * prices) j;
}

-- the same of points that are given
pub sums-joined : (prices : ℕ) (few rest : List (Trio (List ℕ))) →
    sums_at prices (few ++ rest) ≡ added (sums_at prices few) (sums_at prices rest)
sums-joined prices few rest = λ j. record {
  one = joined-at (λ points. slice_index (member points One)) few rest (2 * prices) j;
  two = joined-at (λ points. slice_index (member points Two)) few rest (2 * prices) j;
  three = joined-at (λ points. slice_index (member points Three)) few rest (2 * prices) j;
}

-- and so are the quantities
pub quantities-joined : (prices : ℕ) (few rest : List Curve) →
    summed_quantities prices (few ++ rest) ≡ plain_sums (summed_quantities prices few) (summed_quantities prices rest)
quantities-joined prices few rest =
    let plus = λ (x y : ℕ). x + y in
    let front = length-summed prices few in
    let back = length-summed prices rest in
    let whole = length-summed prices (few ++ rest) in
    let both = length-pairwise plus (summed_quantities prices few) (summed_quantities prices rest) in
    same_number_lists (summed_quantities prices (few ++ rest))
    (plain_sums (summed_quantities prices few) (summed_quantities prices rest)) (omega arith)
    (λ k lt.
    let within : k < 2 * prices = omega arith in
    item-summed prices (few ++ rest) k within
    ∙ sum_by-append (λ curve. quantity curve k) few rest
    ∙ ap (λ total. total + sum_by (λ curve. quantity curve k) rest) (sym (item-summed prices few k within))
    ∙ ap (λ total. get_or (summed_quantities prices few) k 0 + total) (sym (item-summed prices rest k within))
    ∙ sym (item-pairwise plus (summed_quantities prices few) (summed_quantities prices rest) k (omega arith) (omega arith)))
