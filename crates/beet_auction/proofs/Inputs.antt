-- The summed points of a book lie on lines with its summed quantities.
use Rattle.std.proofs.Common.{◌≡◌, ℕ, ◌+◌, ◌*◌, ◌%◌, List, [], ◌∷◌, arith, refl}
use Rattle.std.specs.Prelude.{sum_by}
use Rattle.std.proofs.lemmas.List.Sums.{sum_by-cons}
use Rattle.beet_field.specs.Field.{p}
use Rattle.beet_field.proofs.Modular.{mul_same}
use Rattle.beet_field.specs.Point.{number_of}
use Rattle.beet_field.specs.declared.point.Point.{Point}
use Rattle.beet_shamir.specs.Line.{point_of}
use Rattle.beet_bids.specs.Curves.{quantity}
use Rattle.beet_book.specs.Farmers.{BidderWithWords, point_for, slope_for, summed_point}

-- sums of points are the points of the sums
pub points-summed : (farmers : List BidderWithWords) (i : Point) (n : ℕ) →
    summed_point farmers i n ≡ point_of (sum_by (λ farmer. quantity farmer.bidder.curve n) farmers)
    (sum_by (λ farmer. slope_for farmer n) farmers % p) i
points-summed [] i n = nothing (number_of i) where
  nothing : (i : ℕ) → 0 ≡ (0 + (0 * i) % p) % p
  nothing i = omega arith
points-summed (farmer ∷ farmers) i n =
    let v : ℕ = quantity farmer.bidder.curve n in
    let s : ℕ = slope_for farmer n in
    let vs : ℕ = sum_by (λ f. quantity f.bidder.curve n) farmers in
    let ss : ℕ = sum_by (λ f. slope_for f n) farmers in
    let rest = points-summed farmers i n in
    let a = sum_by-cons (λ f. point_for f i n) farmer farmers in
    let b = sum_by-cons (λ f. quantity f.bidder.curve n) farmer farmers in
    let c = sum_by-cons (λ f. slope_for f n) farmer farmers in
    rw (a, b, c) (step v s vs ss (number_of i) (sum_by (λ f. point_for f i n) farmers) rest) where
      step : (v s vs ss i total : ℕ) → total % p ≡ (vs + (ss % p * i) % p) % p →
          ((v + (s * i) % p) % p + total) % p ≡ (v + vs + ((s + ss) % p * i) % p) % p
      step v s vs ss i total e =
          let e1 = mul_same ((s + ss) % p) i (s + ss) i (omega arith) refl in
          let e2 = mul_same (ss % p) i ss i (omega arith) refl in
          omega (arith, e, e1, e2)
