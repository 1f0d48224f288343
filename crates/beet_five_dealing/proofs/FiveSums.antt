-- The shares that bidders deal among five servers, added up.
use Rattle.std.proofs.Common.{◌≡◌, ◌≤◌, ◌<◌, ◌+◌, ◌*◌, ◌-◌, ◌%◌, ◌++◌, ◌∷◌, [], ℕ, List, length, take, drop, arith, refl, sym, ◌∙◌, ap}
use Rattle.std.proofs.Common.{length-append, length-drop, slice_index, get_or, inl, inr}
use Rattle.std.proofs.Common.{Some, slice_get, suc, zero}
use Rattle.std.specs.Prelude.{replicate, sum_by}
use Rattle.std.proofs.Math.Seq.{take-append_seam}
use Rattle.std.proofs.lemmas.Bool.{cases_lt}
use Rattle.std.proofs.lemmas.Grind.{same_number_lists}
use Rattle.std.proofs.lemmas.List.{get_or-append-add, get_or-drop, get_or-replicate, get_or-take, get_or_append_left, length-replicate}
use Rattle.std.proofs.lemmas.List.{length-take-le, take_all}
use Rattle.std.proofs.lemmas.List.Sums.{sum_by_push}
use Rattle.std.proofs.lemmas.Option.{same_Some}
use Rattle.beet_field.specs.Field.{p, add_of}
use Rattle.beet_field.proofs.Modular.{mul_same}
use Rattle.beet_words.specs.Words.{accepted}
use Rattle.beet_gates.specs.Each.{each}
use Rattle.beet_gates.proofs.EachFacts.{each-same, item-each, length-each}
use Rattle.beet_bids.specs.Curves.{Curve}
use Rattle.beet_bids.specs.Grids.{Grid}
use Rattle.beet_bids.specs.declared.book.Bidder.{Bidder}
use Rattle.beet_book.specs.Dealing.{quantities}
use Rattle.beet_book.specs.Farmers.{BidderWithWords, farmers_of}
use Rattle.beet_book.proofs.PointsAdded.{one-more}
use Rattle.beet_weights.specs.Quadratics.{point_of}
use Rattle.beet_five_dealing.specs.FiveInputs.{share_for, summed_share}
use Rattle.beet_five_dealing.specs.FiveTotals.{DealsOne, FiveLists, FiveTotals, HasDealtFive, added_to_each}
use Rattle.beet_five_dealing.specs.FiveTotals.{lists_by, no_totals, share_of, shares_added}

-- a share is added with two remainders taken
pub share-added : (sum value first second i : ℕ) →
    (sum + value + i * ((first + i * second) % p)) % p ≡ add_of sum (point_of value first second i)
share-added sum value first second i =
    let e = mul_same i ((first + i * second) % p) i (first + i * second) refl (omega arith) in omega (arith, e)

-- all numbers of a list are the first that are drawn
pub all-drawn : (numbers words rest : List ℕ) (place n : ℕ) → length numbers ≡ n → n ≤ place →
    take place numbers ++ rest ≡ accepted words → numbers ≡ take n (accepted words)
all-drawn numbers words rest place n count past drawn =
    let whole : take place numbers ≡ numbers = take_all place numbers (omega (arith, count, past)) in
    let all : numbers ++ rest ≡ accepted words = (λ i. sym whole i ++ rest) ∙ drawn in
    sym (take-append_seam numbers rest) ∙ (λ i. take (count i) (all i))

-- as many numbers as are wanted were drawn, once no word is left
pub enough-drawn : (numbers words : List ℕ) (place n : ℕ) → place ≤ length numbers →
    take place numbers ++ [] ≡ accepted words → n ≤ length (accepted words) → n ≤ place
enough-drawn numbers words place n within drawn enough =
    let count = ap length drawn in
    omega (arith, count, enough, length-append (take place numbers) [], length-take-le place numbers within)

-- the sums, if each item is
pub added-each : (i : ℕ) (values numbers sums new : List ℕ) → length new ≡ length sums →
    ((n : ℕ) → n < length sums → slice_index new n ≡ add_of (slice_index sums n) (share_of values numbers i n)) →
    new ≡ shares_added i values numbers sums
added-each i values numbers sums new count items =
    let f = λ (n : ℕ). add_of (slice_index sums n) (share_of values numbers i n) in
    same_number_lists new (each f (length sums)) (count ∙ sym (length-each f (length sums)))
    (λ n lt. let within : n < length sums = omega (arith, lt, count) in items n within ∙ sym (item-each f (length sums) n within))

-- an item of the sums
pub added-item : (i : ℕ) (values numbers sums : List ℕ) (n : ℕ) → n < length sums →
    slice_index (shares_added i values numbers sums) n ≡ add_of (slice_index sums n) (share_of values numbers i n)
added-item i values numbers sums n lt = item-each (λ n. add_of (slice_index sums n) (share_of values numbers i n)) (length sums) n lt

pub length-added : (i : ℕ) (values numbers sums : List ℕ) → length (shares_added i values numbers sums) ≡ length sums
length-added i values numbers sums = length-each (λ n. add_of (slice_index sums n) (share_of values numbers i n)) (length sums)

-- the shares of a curve are added in two parts
pub curve-added : (i : ℕ) (sums numbers : List ℕ) (curve : Curve) (bought sold buy : List ℕ) → length (quantities curve) ≡ length sums →
    length numbers ≡ 2 * length sums → buy ≡ curve.buy →
    bought ≡ shares_added i curve.buy (take (2 * length buy) numbers) (take (length buy) sums) →
    sold ≡ shares_added i curve.sell (drop (2 * length buy) numbers) (drop (length buy) sums) →
    bought ++ sold ≡ shares_added i (quantities curve) numbers sums
curve-added i sums numbers curve bought sold buy e f g b s =
    let n = length buy in
    let count = length-append curve.buy curve.sell in
    let long : n ≡ length curve.buy = ap length g in
    let front : length (take n sums) ≡ n = length-take-le n sums (omega (arith, count, long, e)) in
    let back : length (drop n sums) ≡ length sums - n = length-drop n sums in
    let few : length bought ≡ n = ap length b ∙ length-added i curve.buy (take (2 * n) numbers) (take n sums) ∙ front in
    let rest : length sold ≡ length sums - n = ap length s ∙ length-added i curve.sell (drop (2 * n) numbers) (drop n sums) ∙ back in
    added-each i (quantities curve) numbers sums (bought ++ sold) (omega (arith, length-append bought sold, few, rest, count, long, e))
    (λ k lt. elim (cases_lt k n) [
      | inl low ↦
          get_or_append_left bought sold 0 k (omega (arith, low, few)) ∙ ap (λ l. slice_index l k) b
          ∙ added-item i curve.buy (take (2 * n) numbers) (take n sums) k (omega (arith, low, front))
          ∙ (λ j. add_of (get_or-take n sums k 0 low j) (point_of
          (sym (get_or_append_left curve.buy curve.sell 0 k (omega (arith, low, long))) j)
          (get_or-take (2 * n) numbers (2 * k) 0 (omega (arith, low)) j)
          (get_or-take (2 * n) numbers (2 * k + 1) 0 (omega (arith, low)) j) i))
      | inr high ↦
          let m : ℕ = k - n in
          let whole : n + m ≡ k = omega (arith, high) in
          let seam : length bought + m ≡ k = omega (arith, high, few) in
          let there : length curve.buy + m ≡ k = omega (arith, high, long) in
          let one : 2 * n + 2 * m ≡ 2 * k = omega (arith, high) in
          let two : 2 * n + (2 * m + 1) ≡ 2 * k + 1 = omega (arith, high) in
          ap (slice_index (bought ++ sold)) (sym seam) ∙ get_or-append-add bought sold m 0 ∙ ap (λ l. slice_index l m) s
          ∙ added-item i curve.sell (drop (2 * n) numbers) (drop n sums) m (omega (arith, high, lt, back))
          ∙ (λ j. add_of ((get_or-drop n sums m 0 ∙ ap (slice_index sums) whole) j) (point_of
          ((sym (get_or-append-add curve.buy curve.sell m 0) ∙ ap (slice_index (quantities curve)) there) j)
          ((get_or-drop (2 * n) numbers (2 * m) 0 ∙ ap (slice_index numbers) one) j)
          ((get_or-drop (2 * n) numbers (2 * m + 1) 0 ∙ ap (slice_index numbers) two) j) i))
    ])

-- the totals of no bidder
pub none-dealt : (grid : Grid) → HasDealtFive grid [] (no_totals grid.prices)
none-dealt grid = record {
  prices = refl;
  sums = λ j. record { one = none 1 j; two = none 2 j; three = none 3 j; four = none 4 j; five = none 5 j };
}
  where
    none : (i : ℕ) → replicate (2 * grid.prices) 0 ≡ each (summed_share [] i) (2 * grid.prices)
    none i =
        let n = 2 * grid.prices in
        same_number_lists (replicate n 0) (each (summed_share [] i) n)
        (length-replicate {A = ℕ} n 0 ∙ sym (length-each (summed_share [] i) n))
        (λ k lt.
        let within : k < n = omega (arith, length-replicate {A = ℕ} n 0) in
        get_or-replicate n k 0 0 within ∙ sym (item-each (summed_share [] i) n k within))

-- the sums of one server with one bidder more
module _ (grid : Grid) (farmers : List BidderWithWords) (farmer : BidderWithWords) (numbers : List ℕ)
    (drawn : numbers ≡ take (2 * (2 * grid.prices)) (accepted farmer.words)) where
  abbrev places : ℕ
  places = 2 * grid.prices

  share-is : (i n : ℕ) → n < places → share_of (quantities farmer.bidder.curve) numbers i n ≡ share_for farmer i n
  share-is i n lt =
      let list = accepted farmer.words in
      let first : 2 * n ≡ 2 * n + 0 = omega arith in
      λ j. point_of (slice_index (quantities farmer.bidder.curve) n)
      ((ap (λ l. slice_index l (2 * n)) drawn ∙ get_or-take (2 * places) list (2 * n) 0 (omega (arith, lt))
      ∙ ap (slice_index list) first) j)
      ((ap (λ l. slice_index l (2 * n + 1)) drawn ∙ get_or-take (2 * places) list (2 * n + 1) 0 (omega (arith, lt))) j) i

  one-added : (i : ℕ) →
      shares_added i (quantities farmer.bidder.curve) numbers (each (summed_share farmers i) places)
      ≡ each (summed_share (farmers ++ farmer ∷ []) i) places
  one-added i =
      let before = each (summed_share farmers i) places in
      let many = length-each (summed_share farmers i) places in
      let f = λ (n : ℕ). add_of (slice_index before n) (share_of (quantities farmer.bidder.curve) numbers i n) in
      ap (each f) many
      ∙ each-same f (summed_share (farmers ++ farmer ∷ []) i) places
      (λ n lt.
      (λ j. add_of (item-each (summed_share farmers i) places n lt j) (share-is i n lt j))
      ∙ sym (one-more (sum_by (λ farmer. share_for farmer i n) farmers) (share_for farmer i n))
      ∙ ap (λ total. total % p) (sym (sum_by_push (λ farmer. share_for farmer i n) farmers farmer)))

  pub more-dealt : (before after : FiveLists) → before ≡ lists_by (λ i. each (summed_share farmers i) places) →
      after ≡ added_to_each (quantities farmer.bidder.curve) numbers before →
      after ≡ lists_by (λ i. each (summed_share (farmers ++ farmer ∷ []) i) places)
  more-dealt before after is added =
      added ∙ ap (added_to_each (quantities farmer.bidder.curve) numbers) is
      ∙ (λ j. record { one = one-added 1 j; two = one-added 2 j; three = one-added 3 j; four = one-added 4 j; five = one-added 5 j })

-- a bidder is dealt
pub deals-one : (curve : Curve) (words numbers : List ℕ) (old new : FiveTotals) → new.prices ≡ old.prices →
    numbers ≡ take (2 * (2 * old.prices)) (accepted words) →
    new.sums ≡ added_to_each (quantities curve) numbers old.sums → DealsOne curve words old new
deals-one curve words numbers old new prices drawn added = record {
  prices = prices;
  dealt = λ grid farmers bidder is has. record {
    prices = prices ∙ has.prices;
    sums = more-dealt grid farmers (record { bidder = bidder; words = words }) numbers
        (drawn ∙ ap (λ n. take (2 * (2 * n)) (accepted words)) has.prices) old.sums new.sums has.sums
        (added ∙ ap (λ (c : Curve). added_to_each (quantities c) numbers old.sums) (sym is));
  };
}

-- bidders and their lists of words, one more
pub farmers-next : (bidders : List Bidder) (words : List (List ℕ)) (k : ℕ) (bidder : Bidder) (list : List ℕ) →
    length words ≡ length bidders → slice_get bidders k ≡ Some bidder → slice_get words k ≡ Some list →
    take k (farmers_of bidders words) ++ record { bidder = bidder; words = list } ∷ [] ≡ take (suc k) (farmers_of bidders words)
farmers-next [] words k bidder list e b w = cc b
farmers-next (x ∷ xs) [] k bidder list e b w = cc w
farmers-next (x ∷ xs) (y ∷ ys) zero bidder list e b w =
    λ j. record { bidder = sym (same_Some x bidder b) j; words = sym (same_Some y list w) j } ∷ []
farmers-next (x ∷ xs) (y ∷ ys) (suc k) bidder list e b w =
    let few : length ys ≡ length xs = omega (arith, e) in
    ap (λ (fs : List BidderWithWords). record { bidder = x; words = y } ∷ fs) (farmers-next xs ys k bidder list few b w)

pub length-farmers : (bidders : List Bidder) (words : List (List ℕ)) → length words ≡ length bidders →
    length (farmers_of bidders words) ≡ length bidders
length-farmers [] words e = refl
length-farmers (x ∷ xs) [] e = absurd (omega (arith, e))
length-farmers (x ∷ xs) (y ∷ ys) e =
    let few : length ys ≡ length xs = omega (arith, e) in
    let rest = length-farmers xs ys few in omega (arith, rest)
