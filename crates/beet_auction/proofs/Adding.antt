-- The points of bidders that are dealt and added one after another are the summed points.
use Rattle.std.proofs.Common.{◌≡◌, ℕ, ◌*◌, ◌%◌, ◌<◌, ◌≤◌, List, [], ◌∷◌, ◌++◌, length, get_or, arith, sym, ◌∙◌, ap}
use Rattle.std.specs.Prelude.{replicate, sum_by}
use Rattle.std.proofs.lemmas.List.{get_or-replicate, length-replicate}
use Rattle.std.proofs.lemmas.List.Sums.{sum_by_push}
use Rattle.std.proofs.lemmas.Grind.{same_number_lists}
use Rattle.beet_field.specs.Field.{p, add_of}
use Rattle.beet_field.specs.declared.point.Point.{Point}
use Rattle.beet_field.specs.declared.point.Point.TheVariants.{One, Two, Three}
use Rattle.beet_shamir.specs.Line.{point_of}
use Rattle.beet_words.specs.Words.{accepted}
use Rattle.beet_gates.specs.Each.{each}
use Rattle.beet_gates.proofs.EachFacts.{length-each, item-each}
use Rattle.beet_book.specs.Dealing.{points_at, quantities, dealt_points}
use Rattle.beet_book.specs.Totals.{field_sums, added, none_of}
use Rattle.beet_book.proofs.Pairs.{length-pairwise, item-pairwise}
use Rattle.beet_book.proofs.PointsAdded.{one-more}
use Rattle.beet_book.proofs.Sums.{sums-by_item}
use Rattle.beet_book.specs.Farmers.{BidderWithWords, point_for, summed_point, summed_points}

no-points : (prices : ℕ) (i : Point) → each (summed_point [] i) (2 * prices) ≡ replicate (2 * prices) 0
no-points prices i =
    let n = 2 * prices in
    same_number_lists (each (summed_point [] i) n) (replicate n 0) (length-each (summed_point [] i) n ∙ sym (length-replicate n 0))
    (λ k lt.
    let within : k < n = omega (arith, length-each (summed_point [] i) n) in
    item-each (summed_point [] i) n k within ∙ sym (get_or-replicate n k 0 0 within))

-- the sums of no bidder
pub summed-none : (prices : ℕ) → summed_points prices [] ≡ (none_of prices).points
summed-none prices = λ j. record { one = no-points prices One j; two = no-points prices Two j; three = no-points prices Three j }

more-points : (prices : ℕ) (farmers : List BidderWithWords) (farmer : BidderWithWords) (i : Point) →
    length (quantities farmer.bidder.curve) ≡ 2 * prices → 2 * prices ≤ length (accepted farmer.words) →
    each (summed_point (farmers ++ farmer ∷ []) i) (2 * prices)
    ≡ field_sums (each (summed_point farmers i) (2 * prices)) (points_at (quantities farmer.bidder.curve) (accepted farmer.words) i)
more-points prices farmers farmer i h enough =
    let n = 2 * prices in
    let values = quantities farmer.bidder.curve in
    let slopes = accepted farmer.words in
    let long = length-each (summed_point farmers i) n in
    let many = length-each (summed_point (farmers ++ farmer ∷ []) i) n in
    let both = length-pairwise (λ value slope. point_of value slope i) values slopes in
    sums-by_item (each (summed_point farmers i) n) (points_at values slopes i) (each (summed_point (farmers ++ farmer ∷ []) i) n)
    (omega (arith, both)) (omega arith)
    (λ k lt.
    let within : k < n = omega arith in
    item-each (summed_point (farmers ++ farmer ∷ []) i) n k within
    ∙ ap (λ total. total % p) (sum_by_push (λ f. point_for f i k) farmers farmer)
    ∙ one-more (sum_by (λ f. point_for f i k) farmers) (point_for farmer i k)
    ∙ ap (λ total. add_of total (point_for farmer i k)) (sym (item-each (summed_point farmers i) n k within))
    ∙ ap (λ point. add_of (get_or (each (summed_point farmers i) n) k 0) point)
    (sym (item-pairwise (λ value slope. point_of value slope i) values slopes k (omega arith) (omega arith))))

-- the sums with one bidder more
pub summed-more : (prices : ℕ) (farmers : List BidderWithWords) (farmer : BidderWithWords) →
    length (quantities farmer.bidder.curve) ≡ 2 * prices → 2 * prices ≤ length (accepted farmer.words) →
    summed_points prices (farmers ++ farmer ∷ [])
    ≡ added (summed_points prices farmers) (dealt_points farmer.bidder.curve (accepted farmer.words))
summed-more prices farmers farmer h enough = λ j. record {
  one = more-points prices farmers farmer One h enough j;
  two = more-points prices farmers farmer Two h enough j;
  three = more-points prices farmers farmer Three h enough j;
}
