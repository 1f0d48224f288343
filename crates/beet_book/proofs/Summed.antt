-- The sums of the quantities of several curves, and the totals that carry them.
use Rattle.std.proofs.Common.{◌≡◌, ℕ, suc, ◌+◌, ◌*◌, ◌%◌, ◌<◌, List, [], ◌∷◌, ◌++◌, length, get_or, min, arith, refl, sym, ◌∙◌, ap}
use Rattle.std.specs.Prelude.{replicate, sum_by, slice_index, All}
use Rattle.std.proofs.lemmas.List.{get_or-replicate, length-replicate, get_or_append_left, get_or-append-add}
use Rattle.std.proofs.lemmas.List.FromFn.{get_or-map-range_with_len, length-map-range_with_len}
use Rattle.std.proofs.lemmas.List.Sums.{sum_by-append}
use Rattle.std.proofs.lemmas.Grind.{same_number_lists}
use Rattle.beet_field.specs.Field.{p}
use Rattle.beet_field.specs.declared.point.Point.{Point}
use Rattle.beet_field.specs.declared.point.Point.TheVariants.{One, Two, Three}
use Rattle.beet_field.specs.declared.trio.Trio.{Trio}
use Rattle.beet_shamir.specs.Line.{point_of, recombined}
use Rattle.beet_shamir.proofs.Laws.{zero-point}
use Rattle.beet_bids.specs.Curves.{Curve, quantity}
use Rattle.beet_book.specs.Dealing.{points_at, quantities, AreShares}
use Rattle.beet_book.specs.Totals.{Totals, plain_sums, none_of, supply_first, points_on, summed_quantities, CarriesValues}
use Rattle.beet_book.proofs.Pairs.{length-pairwise, item-pairwise}
use Rattle.beet_book.proofs.Sums.{item-supply, item-demand}

pub length-summed : (prices : ℕ) (curves : List Curve) → length (summed_quantities prices curves) ≡ 2 * prices
length-summed prices curves = length-map-range_with_len (λ n. sum_by (λ curve. quantity curve n) curves) 0 (2 * prices)

pub item-summed : (prices : ℕ) (curves : List Curve) (n : ℕ) → n < 2 * prices →
    get_or (summed_quantities prices curves) n 0 ≡ sum_by (λ curve. quantity curve n) curves
item-summed prices curves n h =
    get_or-map-range_with_len (λ n. sum_by (λ curve. quantity curve n) curves) 0 (2 * prices) n n 0 h (omega arith)

-- the sums of no curve are zeros
summed-none : (prices : ℕ) → summed_quantities prices [] ≡ replicate (2 * prices) 0
summed-none prices =
    same_number_lists (summed_quantities prices []) (replicate (2 * prices) 0)
    (length-summed prices [] ∙ sym (length-replicate (2 * prices) 0))
    (λ k h.
    let within : k < 2 * prices = omega (arith, length-summed prices []) in
    item-summed prices [] k within ∙ sym (get_or-replicate (2 * prices) k 0 0 within))

-- one curve more
pub summed-more : (prices : ℕ) (curves : List Curve) (curve : Curve) → length (quantities curve) ≡ 2 * prices →
    summed_quantities prices (curves ++ curve ∷ []) ≡ plain_sums (summed_quantities prices curves) (quantities curve)
summed-more prices curves curve h =
    let all = summed_quantities prices (curves ++ curve ∷ []) in
    let before = summed_quantities prices curves in
    let plus = λ (x y : ℕ). x + y in
    let long = length-summed prices (curves ++ curve ∷ []) in
    let short = length-summed prices curves in
    let both = length-pairwise plus before (quantities curve) in
    same_number_lists all (plain_sums before (quantities curve)) (omega arith)
    (λ k lt.
    let within : k < 2 * prices = omega arith in
    item-summed prices (curves ++ curve ∷ []) k within
    ∙ sum_by-append (λ curve. quantity curve k) curves (curve ∷ [])
    ∙ ap (λ n. sum_by (λ curve. quantity curve k) curves + n) (omega arith)
    ∙ ap (λ n. n + quantity curve k) (sym (item-summed prices curves k within))
    ∙ sym (item-pairwise plus before (quantities curve) k (omega arith) (omega arith)))

zeros : (n : ℕ) (at : Point) → replicate n 0 ≡ points_at (replicate n 0) (replicate n 0) at
zeros n at =
    let none : List ℕ = replicate n 0 in
    let long : length none ≡ n = length-replicate n 0 in
    let both : length (points_at none none at) ≡ min (length none) (length none) =
    length-pairwise (λ value slope. point_of value slope at) none none in
    same_number_lists none (points_at none none at) (omega arith)
    (λ k lt.
    let within : k < n = omega arith in
    let here : get_or none k 0 ≡ 0 = get_or-replicate n k 0 0 within in
    here ∙ sym (item-pairwise (λ value slope. point_of value slope at) none none k (omega arith) (omega arith)
    ∙ rw here (sym (zero-point at))))

-- the totals of no bidder carry the sums of no curve
pub shares-none : (prices : ℕ) → AreShares (summed_quantities prices []) (none_of prices).points
shares-none prices = record {
  slopes = replicate (2 * prices) 0;
  paired = length-replicate (2 * prices) 0 ∙ sym (length-summed prices []);
  shares = rw (summed-none prices, ← zeros (2 * prices) One, ← zeros (2 * prices) Two, ← zeros (2 * prices) Three) refl;
}

-- sums of the same numbers
sum-same : (f g : Curve → ℕ) (curves : List Curve) → All (λ curve. f curve ≡ g curve) curves → sum_by f curves ≡ sum_by g curves
sum-same f g [] same = refl
sum-same f g (curve ∷ curves) same =
    let here : f curve ≡ g curve = same 0 curve (omega arith) in
    let rest = sum-same f g curves (λ k d h. same (suc k) d (omega arith)) in
    sum_by-append f (curve ∷ []) curves
    ∙ ap (λ n. 0 + f curve + n) rest
    ∙ ap (λ n. 0 + n + sum_by g curves) here
    ∙ sym (sum_by-append g (curve ∷ []) curves)

-- the supply and the demand at a place, of what the totals carry
pub supply-summed : (prices k : ℕ) (curves : List Curve) → k < prices → All (λ curve. length curve.buy ≡ prices) curves →
    get_or (supply_first prices (summed_quantities prices curves)) k 0 ≡ sum_by (λ curve. slice_index curve.sell k) curves
supply-summed prices k curves h all =
    item-supply prices (summed_quantities prices curves) k (length-summed prices curves) h
    ∙ item-summed prices curves (prices + k) (omega arith)
    ∙ sum-same (λ curve. quantity curve (prices + k)) (λ curve. slice_index curve.sell k) curves
    (λ j d lt.
    let curve = get_or curves j d in
    ap (λ n. quantity curve (n + k)) (sym (all j d lt)) ∙ get_or-append-add curve.buy curve.sell k 0)

pub demand-summed : (prices k : ℕ) (curves : List Curve) → k < prices → All (λ curve. length curve.buy ≡ prices) curves →
    get_or (supply_first prices (summed_quantities prices curves)) (prices + k) 0 ≡ sum_by (λ curve. slice_index curve.buy k) curves
demand-summed prices k curves h all =
    item-demand prices (summed_quantities prices curves) (prices + k) (length-summed prices curves) (omega arith) (omega arith)
    ∙ ap (λ n. get_or (summed_quantities prices curves) n 0) (omega arith)
    ∙ item-summed prices curves k (omega arith)
    ∙ sum-same (λ curve. quantity curve k) (λ curve. slice_index curve.buy k) curves
    (λ j d lt. get_or_append_left (get_or curves j d).buy (get_or curves j d).sell 0 k (omega (arith, all j d lt)))

-- what the wires of dealt bidders recombine to: supply at each place, and then demand at each place, modulo p
pub supply-recombined : (totals : Totals) (wires : Trio (List ℕ)) (k : ℕ) (curves : List Curve) →
    CarriesValues totals wires → AreShares (summed_quantities totals.prices curves) totals.points →
    k < totals.prices → All (λ curve. length curve.buy ≡ totals.prices) curves →
    recombined (points_on wires k) ≡ sum_by (λ curve. slice_index curve.sell k) curves % p
supply-recombined totals wires k curves carries shares h all =
    let prices = totals.prices in
    carries (summed_quantities prices curves) shares (length-summed prices curves) k (omega arith)
    ∙ ap (λ n. n % p) (supply-summed prices k curves h all)

pub demand-recombined : (totals : Totals) (wires : Trio (List ℕ)) (k : ℕ) (curves : List Curve) →
    CarriesValues totals wires → AreShares (summed_quantities totals.prices curves) totals.points →
    k < totals.prices → All (λ curve. length curve.buy ≡ totals.prices) curves →
    recombined (points_on wires (totals.prices + k)) ≡ sum_by (λ curve. slice_index curve.buy k) curves % p
demand-recombined totals wires k curves carries shares h all =
    let prices = totals.prices in
    carries (summed_quantities prices curves) shares (length-summed prices curves) (prices + k) (omega arith)
    ∙ ap (λ n. n % p) (demand-summed prices k curves h all)
