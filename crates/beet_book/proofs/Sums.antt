-- Points of lines, added up.
use Rattle.std.proofs.Common.{◌≡◌, ℕ, ◌+◌, ◌*◌, ◌-◌, ◌%◌, ◌<◌, ◌≤◌, List, length, get_or, take, drop, arith, refl, sym}
use Rattle.std.proofs.Common.{◌∙◌, ap, length-drop, inl, inr, length-append}
use Rattle.std.proofs.lemmas.Bool.{cases_lt}
use Rattle.std.proofs.lemmas.List.{get_or_append_left, get_or-append_right, get_or-drop, get_or-take, length-take-le}
use Rattle.std.proofs.lemmas.Grind.{same_number_lists}
use Rattle.beet_field.specs.Field.{p, add_of, mul_of}
use Rattle.beet_field.specs.Point.{number_of}
use Rattle.beet_field.specs.Trio.{member}
use Rattle.beet_field.specs.declared.point.Point.{Point}
use Rattle.beet_field.specs.declared.point.Point.TheVariants.{One, Two, Three}
use Rattle.beet_field.specs.declared.trio.Trio.{Trio}
use Rattle.beet_shamir.specs.Line.{point_of, recombined}
use Rattle.beet_book.specs.Dealing.{points_at, shares_of}
use Rattle.beet_book.specs.Totals.{field_sums, plain_sums, supply_first, wires_of, AddsValues, CarriesValues, Totals}
use Rattle.beet_book.proofs.Pairs.{length-pairwise, item-pairwise}

-- a list with supply first is as long
pub length-first : (prices : ℕ) (xs : List ℕ) → length xs ≡ 2 * prices → length (supply_first prices xs) ≡ 2 * prices
length-first prices xs h =
    omega (arith, length-append (drop prices xs) (take prices xs), length-drop prices xs, length-take-le prices xs (omega arith), h)

-- a list is the sums where each item is
pub sums-by_item : (xs ys zs : List ℕ) → length ys ≡ length xs → length zs ≡ length xs →
    ((k : ℕ) → k < length xs → get_or zs k 0 ≡ add_of (get_or xs k 0) (get_or ys k 0)) → zs ≡ field_sums xs ys
sums-by_item xs ys zs h i each =
    same_number_lists zs (field_sums xs ys) (omega (arith, length-pairwise add_of xs ys))
    (λ k lt. each k (omega arith) ∙ sym (item-pairwise add_of xs ys k (omega arith) (omega arith)))

-- the sum of two points of lines
point-sum : (v w s t i : ℕ) → add_of (v + w) (mul_of (s + t) i) ≡ add_of (add_of v (mul_of s i)) (add_of w (mul_of t i))
point-sum v w s t i = omega arith

-- points of lines, added at one server
pub points_at-sums : (v w s t : List ℕ) (at : Point) → length s ≡ length v → length t ≡ length w →
    field_sums (points_at v s at) (points_at w t at) ≡ points_at (plain_sums v w) (plain_sums s t) at
points_at-sums v w s t at h i =
    let f = λ (value slope : ℕ). point_of value slope at in
    let plus = λ (x y : ℕ). x + y in
    let a = length-pairwise f v s in
    let b = length-pairwise f w t in
    let c = length-pairwise plus v w in
    let d = length-pairwise plus s t in
    let e = length-pairwise add_of (points_at v s at) (points_at w t at) in
    let g = length-pairwise f (plain_sums v w) (plain_sums s t) in
    same_number_lists (field_sums (points_at v s at) (points_at w t at)) (points_at (plain_sums v w) (plain_sums s t) at) (omega arith)
    (λ k lt.
    item-pairwise add_of (points_at v s at) (points_at w t at) k (omega arith) (omega arith)
    ∙ ap (λ x. add_of x (get_or (points_at w t at) k 0)) (item-pairwise f v s k (omega arith) (omega arith))
    ∙ ap (λ x. add_of (point_of (get_or v k 0) (get_or s k 0) at) x) (item-pairwise f w t k (omega arith) (omega arith))
    ∙ sym (point-sum (get_or v k 0) (get_or w k 0) (get_or s k 0) (get_or t k 0) (number_of at))
    ∙ ap (λ x. point_of x (get_or s k 0 + get_or t k 0) at) (sym (item-pairwise plus v w k (omega arith) (omega arith)))
    ∙ ap (λ x. point_of (get_or (plain_sums v w) k 0) x at) (sym (item-pairwise plus s t k (omega arith) (omega arith)))
    ∙ sym (item-pairwise f (plain_sums v w) (plain_sums s t) k (omega arith) (omega arith)))

-- points of lines, added at each server
pub added-values : (a b : Trio (List ℕ)) (one two three : List ℕ) →
    one ≡ field_sums a.one b.one → two ≡ field_sums a.two b.two → three ≡ field_sums a.three b.three →
    AddsValues a b (record { one = one; two = two; three = three })
added-values a b one two three e f g v w x y = record {
  slopes = plain_sums x.slopes y.slopes;
  paired = omega (arith, length-pairwise (λ m n. m + n) v w, length-pairwise (λ m n. m + n) x.slopes y.slopes, x.paired, y.paired);
  shares = rw (
    e,
    f,
    g,
    x.shares,
    y.shares,
    points_at-sums v w x.slopes y.slopes One x.paired y.paired,
    points_at-sums v w x.slopes y.slopes Two x.paired y.paired,
    points_at-sums v w x.slopes y.slopes Three x.paired y.paired,
  ) refl;
}

-- supply comes first, and demand after it
pub item-supply : (prices : ℕ) (xs : List ℕ) (k : ℕ) → length xs ≡ 2 * prices → k < prices →
    get_or (supply_first prices xs) k 0 ≡ get_or xs (prices + k) 0
item-supply prices xs k h lt =
    get_or_append_left (drop prices xs) (take prices xs) 0 k (omega (arith, length-drop prices xs)) ∙ get_or-drop prices xs k 0

pub item-demand : (prices : ℕ) (xs : List ℕ) (k : ℕ) → length xs ≡ 2 * prices → prices ≤ k → k < 2 * prices →
    get_or (supply_first prices xs) k 0 ≡ get_or xs (k - prices) 0
item-demand prices xs k h ge lt =
    get_or-append_right (drop prices xs) (take prices xs) prices k 0 (omega (arith, length-drop prices xs)) ge
    ∙ get_or-take prices xs (k - prices) 0 (omega arith)

-- the points of a line recombine to its value, modulo p
recombined-line : (v s one two three : ℕ) → one ≡ point_of v s One → two ≡ point_of v s Two →
    recombined (record { one = one; two = two; three = three }) ≡ v % p
recombined-line v s one two three e f = omega arith

-- the point at a place of both lists
item-points : (v s : List ℕ) (at : Point) (k : ℕ) → k < length v → length s ≡ length v →
    get_or (points_at v s at) k 0 ≡ point_of (get_or v k 0) (get_or s k 0) at
item-points v s at k lt paired = item-pairwise (λ value slope. point_of value slope at) v s k lt (omega arith)

-- the points at a server of lines with these values and slopes
pub member-shares : (v s : List ℕ) (at : Point) → member (shares_of v s) at ≡ points_at v s at
member-shares v s One = refl
member-shares v s Two = refl
member-shares v s Three = refl

pub length-points : (v s : List ℕ) (at : Point) → length s ≡ length v → length (points_at v s at) ≡ length v
length-points v s at paired = omega (arith, length-pairwise (λ value slope. point_of value slope at) v s)

-- each wire recombines to its value
wire-value : (prices wire : ℕ) (v s : List ℕ) → length v ≡ 2 * prices → length s ≡ length v → wire < 2 * prices →
    recombined (record {
      one = get_or (supply_first prices (points_at v s One)) wire 0;
      two = get_or (supply_first prices (points_at v s Two)) wire 0;
      three = get_or (supply_first prices (points_at v s Three)) wire 0;
    }) ≡ get_or (supply_first prices v) wire 0 % p
wire-value prices wire v s h paired lt =
    let one = length-points v s One paired in
    let two = length-points v s Two paired in
    elim (cases_lt wire prices) [
      | inl low ↦
          recombined-line (get_or v (prices + wire) 0) (get_or s (prices + wire) 0) _ _
          (get_or (supply_first prices (points_at v s Three)) wire 0)
          (item-supply prices (points_at v s One) wire (omega arith) low ∙ item-points v s One (prices + wire) (omega arith) paired)
          (item-supply prices (points_at v s Two) wire (omega arith) low ∙ item-points v s Two (prices + wire) (omega arith) paired)
          ∙ ap (λ n. n % p) (sym (item-supply prices v wire h low))
      | inr high ↦
          recombined-line (get_or v (wire - prices) 0) (get_or s (wire - prices) 0) _ _
          (get_or (supply_first prices (points_at v s Three)) wire 0)
          (item-demand prices (points_at v s One) wire (omega arith) high lt ∙ item-points v s One (wire - prices) (omega arith) paired)
          (item-demand prices (points_at v s Two) wire (omega arith) high lt ∙ item-points v s Two (wire - prices) (omega arith) paired)
          ∙ ap (λ n. n % p) (sym (item-demand prices v wire h high lt))
    ]

pub wires-carry : (totals : Totals) (wires : Trio (List ℕ)) → wires ≡ wires_of totals → CarriesValues totals wires
wires-carry totals wires e v x h wire lt =
    rw (e, x.shares) (wire-value totals.prices wire v x.slopes h x.paired lt)
