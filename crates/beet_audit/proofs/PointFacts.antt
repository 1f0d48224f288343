-- Points of three views on lines.
use Rattle.std.proofs.Common.{◌≡◌, ◌<◌, ◌≤◌, ◌+◌, ◌*◌, ◌-◌, ◌%◌, ℕ, List, [], length, get_or, slice_index, map, None}
use Rattle.std.proofs.Common.{Option, inl, inr, arith, sym, ◌∙◌, ap, subst, length-append}
use Rattle.std.proofs.lemmas.Bool.{cases_lt}
use Rattle.std.proofs.lemmas.List.{get_or-map, length-map, ext_get_or, get_or_append_left, get_or-append_right}
use Rattle.std.proofs.lemmas.Grind.{same_number_lists}
use Rattle.beet_field.specs.Field.{p, add_of, mul_of, sub_of}
use Rattle.beet_field.specs.Trio.{member}
use Rattle.beet_field.specs.declared.point.Point.{Point}
use Rattle.beet_field.specs.declared.point.Point.TheVariants.{One, Two, Three}
use Rattle.beet_field.specs.declared.trio.Trio.{Trio}
use Rattle.beet_shamir.specs.Line.{IsLine, point_of, points_of, recombined}
use Rattle.beet_gates.specs.Each.{each}
use Rattle.beet_gates.proofs.EachFacts.{length-each, item-each}
use Rattle.beet_bids.specs.Curves.{Curve}
use Rattle.beet_bids.specs.Grids.{Grid}
use Rattle.beet_bids.specs.declared.curve.TheConstants.{LARGEST_QUANTITY}
use Rattle.beet_book.specs.Dealing.{HasLengths, quantities, shares_of}
use Rattle.beet_book.specs.Totals.{points_on}
use Rattle.beet_book.proofs.Pairs.{length-pairwise, item-pairwise}
use Rattle.beet_view.specs.declared.view.Seen.{Seen}
use Rattle.beet_view.specs.Views.{Viewed, IsSeenAt, IsView}
use Rattle.beet_audit.specs.Audits.{HeaderFits, bidder_at, curve_of, points_of_bidder, value_at}

-- the field: the line through the points at 1 and 2
pub line-one : (a b : ℕ) → a < p → b < p → add_of (sub_of (mul_of 2 a) b) (mul_of (sub_of b a) 1) ≡ a
line-one a b h i = omega arith

pub line-two : (a b : ℕ) → a < p → b < p → add_of (sub_of (mul_of 2 a) b) (mul_of (sub_of b a) 2) ≡ b
line-two a b h i = omega arith

pub line-three : (a b c : ℕ) → a < p → b < p → c < p → mul_of 2 b ≡ add_of a c → add_of (sub_of (mul_of 2 a) b) (mul_of (sub_of b a) 3) ≡ c
line-three a b c h i j e = omega arith

pub on-line : (v s : ℕ) → IsLine (points_of v s)
on-line v s = omega arith

pub value-on : (v s : ℕ) → v < p → recombined (points_of v s) ≡ v
value-on v s h = omega arith

-- bidders whose marks are the same one by one have the same marks
pub marks-same : (first bidders : List Seen) → length bidders ≡ length first →
    ((k : ℕ) (d : Seen) → k < length first → (get_or bidders k d).known ≡ (get_or first k d).known) →
    map (λ (seen : Seen). seen.known) bidders ≡ map (λ (seen : Seen). seen.known) first
marks-same first bidders long same =
    let mark = λ (seen : Seen). seen.known in
    let d : Seen = record { known = None; points = []; own = None } in
    ext_get_or None (map mark bidders) (map mark first) (length-map bidders mark ∙ long ∙ sym (length-map first mark))
    (λ k lt.
    let here : k < length bidders = omega (arith, length-map bidders mark, lt) in
    let there : k < length first = omega (arith, long, here) in
    get_or-map mark bidders k d None here ∙ same k d there ∙ sym (get_or-map mark first k d None there))

-- and those whose marks are the same are as many
pub marks-length : (first bidders : List Seen) →
    map (λ (seen : Seen). seen.known) bidders ≡ map (λ (seen : Seen). seen.known) first → length bidders ≡ length first
marks-length first bidders e =
    let mark = λ (seen : Seen). seen.known in
    sym (length-map bidders mark) ∙ ap (λ (l : List (Option Point)). length l) e ∙ length-map first mark

-- and have each the same
pub marks-at : (first bidders : List Seen) (k : ℕ) (d : Seen) →
    map (λ (seen : Seen). seen.known) bidders ≡ map (λ (seen : Seen). seen.known) first → k < length first →
    (get_or bidders k d).known ≡ (get_or first k d).known
marks-at first bidders k d e lt =
    let mark = λ (seen : Seen). seen.known in
    let here : k < length bidders = omega (arith, marks-length first bidders e, lt) in
    sym (get_or-map mark bidders k d None here) ∙ ap (λ (l : List (Option Point)). get_or l k None) e ∙ get_or-map mark first k d None lt

-- the quantities that points recombine to
pub length-quantities : (prices : ℕ) (points : Trio (List ℕ)) → length (quantities (curve_of prices points)) ≡ 2 * prices
length-quantities prices points =
    let buy = each (value_at points) prices in
    let sell = each (λ k. value_at points (prices + k)) prices in
    omega (arith, length-append buy sell, length-each (value_at points) prices, length-each (λ k. value_at points (prices + k)) prices)

pub item-quantities : (prices : ℕ) (points : Trio (List ℕ)) (n : ℕ) → n < 2 * prices →
    slice_index (quantities (curve_of prices points)) n ≡ value_at points n
item-quantities prices points n lt =
    let buy = each (value_at points) prices in
    let sell = each (λ k. value_at points (prices + k)) prices in
    let long = length-each (value_at points) prices in
    elim (cases_lt n prices) [
      | inl low ↦ get_or_append_left buy sell 0 n (omega (arith, long, low)) ∙ item-each (value_at points) prices n low
      | inr high ↦
          let at : prices + (n - prices) ≡ n = omega (arith, high) in
          get_or-append_right buy sell prices n 0 long high
          ∙ item-each (λ k. value_at points (prices + k)) prices (n - prices) (omega (arith, lt, high))
          ∙ ap (value_at points) at
    ]

-- points on the lines of values and slopes
pub item-shares : (vs ss : List ℕ) (n : ℕ) → n < length vs → n < length ss →
    points_on (shares_of vs ss) n ≡ points_of (slice_index vs n) (slice_index ss n)
item-shares vs ss n h i = λ j. record {
  one = item-pairwise (λ v s. point_of v s One) vs ss n h i j;
  two = item-pairwise (λ v s. point_of v s Two) vs ss n h i j;
  three = item-pairwise (λ v s. point_of v s Three) vs ss n h i j;
}

-- what is dealt of a quantity
pub dealt-here : (vs ss : List ℕ) (n q value slope : ℕ) (dealt : Trio ℕ) → q ≡ slice_index vs n → q ≤ LARGEST_QUANTITY →
    value ≡ q % p → slope ≡ slice_index ss n →
    dealt ≡ points_of value slope → dealt ≡ points_of (slice_index vs n) (slice_index ss n)
dealt-here vs ss n q value slope dealt is limit reduced at h =
    let v : value ≡ slice_index vs n = omega (arith, is, limit, reduced) in
    h ∙ ap (λ x. points_of x slope) v ∙ ap (points_of (slice_index vs n)) at

-- points that are the same one by one are the same
pub trio-same : (first second : Trio (List ℕ)) (n : ℕ) → HasLengths first n → HasLengths second n →
    ((k : ℕ) → k < n → points_on first k ≡ points_on second k) → first ≡ second
trio-same first second n h i same =
    let one = same_number_lists first.one second.one (h.one ∙ sym i.one)
    (λ k lt. ap (λ (t : Trio ℕ). t.one) (same k (omega (arith, h.one, lt)))) in
    let two = same_number_lists first.two second.two (h.two ∙ sym i.two)
    (λ k lt. ap (λ (t : Trio ℕ). t.two) (same k (omega (arith, h.two, lt)))) in
    let three = same_number_lists first.three second.three (h.three ∙ sym i.three)
    (λ k lt. ap (λ (t : Trio ℕ). t.three) (same k (omega (arith, h.three, lt)))) in
    λ j. record { one = one j; two = two j; three = three j }

pub lengths-shares : (vs ss : List ℕ) (n : ℕ) → length vs ≡ n → n ≤ length ss → HasLengths (shares_of vs ss) n
lengths-shares vs ss n h i = record {
  one = omega (arith, length-pairwise (λ v s. point_of v s One) vs ss, h, i);
  two = omega (arith, length-pairwise (λ v s. point_of v s Two) vs ss, h, i);
  three = omega (arith, length-pairwise (λ v s. point_of v s Three) vs ss, h, i);
}

-- the points of a bidder in views that fit, of which there are two for each price
module _ (grid : Grid) (views : Trio Viewed) (fit : (s : Point) → HeaderFits grid views.one s (member views s))
    (limits : (s : Point) → IsView (member views s)) where
  pub bidders-many : (s : Point) → length (member views s).bidders ≡ length views.one.bidders
  bidders-many s = marks-length views.one.bidders (member views s).bidders (fit s).marks

  seen-at : (s : Point) (i : ℕ) → i < length views.one.bidders →
      IsSeenAt (member views s).server (member views s).grid (bidder_at (member views s) i)
  seen-at s i lt = (limits s).seen i (record { known = None; points = []; own = None }) (omega (arith, bidders-many s, lt))

  points-many : (s : Point) (i : ℕ) → i < length views.one.bidders → length (bidder_at (member views s) i).points ≡ 2 * grid.prices
  points-many s i lt = (seen-at s i lt).points ∙ ap (λ (g : Grid). 2 * g.prices) (fit s).over

  pub have-lengths : (i : ℕ) → i < length views.one.bidders → HasLengths (points_of_bidder views i) (2 * grid.prices)
  have-lengths i lt = record { one = points-many One i lt; two = points-many Two i lt; three = points-many Three i lt }

-- what holds at each place of both sides holds of all
pub both-sides : (P : ℕ → Type 0) (prices : ℕ) → ((k : ℕ) → k < prices → P (0 + k)) →
    ((k : ℕ) → k < prices → P (prices + k)) → (n : ℕ) → n < 2 * prices → P n
both-sides P prices buy sell n lt = elim (cases_lt n prices) [
  | inl low ↦ let at : 0 + n ≡ n = omega arith in subst P at (buy n low)
  | inr high ↦ let at : prices + (n - prices) ≡ n = omega (arith, high) in subst P at (sell (n - prices) (omega (arith, high, lt)))
]

-- a curve with the quantities that points recombine to
pub curve-same : (curve : Curve) (prices : ℕ) (points : Trio (List ℕ)) → length curve.buy ≡ prices → length curve.sell ≡ prices →
    ((k : ℕ) → k < prices → slice_index curve.buy k ≡ value_at points k) →
    ((k : ℕ) → k < prices → slice_index curve.sell k ≡ value_at points (prices + k)) →
    curve ≡ curve_of prices points
curve-same curve prices points buying selling bought sold =
    let sells = λ (k : ℕ). value_at points (prices + k) in
    let buy = same_number_lists curve.buy (each (value_at points) prices) (buying ∙ sym (length-each (value_at points) prices))
    (λ k lt. let within : k < prices = omega (arith, buying, lt) in bought k within ∙ sym (item-each (value_at points) prices k within)) in
    let sell = same_number_lists curve.sell (each sells prices) (selling ∙ sym (length-each sells prices))
    (λ k lt. let within : k < prices = omega (arith, selling, lt) in sold k within ∙ sym (item-each sells prices k within)) in
    λ j. record { buy = buy j; sell = sell j }
