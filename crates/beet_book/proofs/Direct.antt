-- Dealing straight into sums.
use Rattle.std.proofs.Common.{◌≡◌, ℕ, ◌<◌, ◌≤◌, List, [], ◌∷◌, ◌++◌, length, get_or, take, drop, arith, refl, sym, ◌∙◌, ap, length-append}
use Rattle.std.proofs.lemmas.List.{length-take-le, take-append-drop}
use Rattle.beet_field.specs.Field.{add_of, mul_of}
use Rattle.beet_field.specs.declared.trio.Trio.{Trio}
use Rattle.beet_bids.specs.Curves.{Curve}
use Rattle.beet_book.specs.Dealing.{pairwise, points_by, quantities, dealt_points, shares_of}
use Rattle.beet_book.specs.Totals.{Totals, added, field_sums, AddsQuantities}
use Rattle.beet_book.proofs.Deals.{dealt-shares}
use Rattle.beet_book.proofs.Pairs.{length-pairwise, item-pairwise, pairwise-front}
use Rattle.beet_book.proofs.Sums.{added-values, sums-by_item}

-- lists that are joined
pub pairwise-append : (f : ℕ → ℕ → ℕ) (xs ys us vs : List ℕ) → length xs ≡ length us →
    pairwise f (xs ++ ys) (us ++ vs) ≡ pairwise f xs us ++ pairwise f ys vs
unfolding pairwise
pairwise-append f [] ys [] vs e = refl
pairwise-append f [] ys (u ∷ us) vs e = absurd (omega (arith, e))
pairwise-append f (x ∷ xs) ys [] vs e = absurd (omega (arith, e))
pairwise-append f (x ∷ xs) ys (u ∷ us) vs e = ap (λ zs. f x u ∷ zs) (pairwise-append f xs ys us vs (omega arith))

-- the points of joined lists are added to joined sums
pub sums-append : (i : ℕ) (s t v w a b : List ℕ) → length s ≡ length v → length s ≡ length a →
    field_sums s (points_by i v a) ++ field_sums t (points_by i w b) ≡ field_sums (s ++ t) (points_by i (v ++ w) (a ++ b))
sums-append i s t v w a b e f =
    let point = λ (value slope : ℕ). add_of value (mul_of slope i) in
    let long = length-pairwise point v a in
    sym (ap (λ points. field_sums (s ++ t) points) (pairwise-append point v w a b (omega arith))
    ∙ pairwise-append add_of s t (points_by i v a) (points_by i w b) (omega arith))

-- the points of a curve are added in two parts
pub curve-added : (i : ℕ) (sums slopes : List ℕ) (curve : Curve) (bought sold buy : List ℕ) → length (quantities curve) ≡ length sums →
    length slopes ≡ length sums → buy ≡ curve.buy →
    bought ≡ field_sums (take (length buy) sums) (points_by i curve.buy (take (length buy) slopes)) →
    sold ≡ field_sums (drop (length buy) sums) (points_by i curve.sell (drop (length buy) slopes)) →
    bought ++ sold ≡ field_sums sums (points_by i (quantities curve) slopes)
curve-added i sums slopes curve bought sold buy e f g b s =
    let count = length-append curve.buy curve.sell in
    let n = length buy in
    let long : length buy ≡ length curve.buy = ap length g in
    let joined = sums-append i (take n sums) (drop n sums) curve.buy curve.sell (take n slopes) (drop n slopes)
    (length-take-le n sums (omega arith) ∙ long) (length-take-le n sums (omega arith) ∙ sym (length-take-le n slopes (omega arith))) in
    rw (b, s) (joined ∙ rw (take-append-drop n sums, take-append-drop n slopes) refl)

-- the sums are those of all points
pub sums-folded : (i : ℕ) (sums values slopes now : List ℕ) → length values ≡ length sums → length slopes ≡ length sums →
    length now ≡ length sums →
    ((k : ℕ) → k < length sums → get_or now k 0 ≡ add_of (get_or sums k 0) (add_of (get_or values k 0) (mul_of (get_or slopes k 0) i))) →
    now ≡ field_sums sums (points_by i values slopes)
sums-folded i sums values slopes now e f g each =
    let point = λ (value slope : ℕ). add_of value (mul_of slope i) in
    sums-by_item sums (points_by i values slopes) now (omega (arith, e, f, length-pairwise point values slopes)) g
    (λ k h. each k h ∙ ap (λ x. add_of (get_or sums k 0) x) (sym (item-pairwise point values slopes k (omega arith) (omega arith))))

-- the slopes are the first numbers that are left
pub points-drawn : (i : ℕ) (values numbers slopes : List ℕ) (count : ℕ) → slopes ≡ take count numbers → count ≡ length values →
    length values ≤ length numbers → points_by i values slopes ≡ points_by i values numbers
points-drawn i values numbers slopes count e f h =
    rw (e, f) (pairwise-front (λ (value slope : ℕ). add_of value (mul_of slope i)) values numbers h)

-- the points of a bidder at each server, by the numbers that are left
pub dealt-directly : (curve : Curve) (numbers slopes : List ℕ) (count : ℕ) →
    slopes ≡ take count numbers → count ≡ length (quantities curve) → length (quantities curve) ≤ length numbers →
    shares_of (quantities curve) slopes ≡ dealt_points curve numbers
dealt-directly curve numbers slopes count e f h =
    let drawn = λ (i : ℕ). points-drawn i (quantities curve) numbers slopes count e f h in
    λ i. record { one = drawn 1 i; two = drawn 2 i; three = drawn 3 i }

pub same-totals : {prices same : ℕ} (a b : Trio (List ℕ)) → prices ≡ same → a ≡ b →
    ◌≡◌ {A = Totals} (record { prices = prices; points = a }) (record { prices = same; points = b })
same-totals a b e f = rw (e, f) refl

-- sums of points of lines stay sums of points of lines
pub adds-quantities : (curve : Curve) (numbers : List ℕ) (before after : Trio (List ℕ)) → length (quantities curve) ≤ length numbers →
    after ≡ added before (dealt_points curve numbers) → AddsQuantities curve before after
adds-quantities curve numbers before after h e v shares =
    rw e (added-values before (dealt_points curve numbers) _ _ _ refl refl refl v (quantities curve) shares
    (dealt-shares (quantities curve) numbers (dealt_points curve numbers) h refl))
