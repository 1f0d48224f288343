-- The sums of a book: supply never falls and demand never rises, and so supply reaches demand from one place on.
use Rattle.std.proofs.Common.{◌≡◌, Option, None, ℕ, zero, suc, ◌+◌, ◌-◌, ◌*◌, ◌^◌, ◌<◌, ◌≤◌, inl, inr, Bool, true, false, List, []}
use Rattle.std.proofs.Common.{◌∷◌, map, length, slice_index, get_or, Some, refl, ap, sym, ◌∙◌, arith}
use Rattle.std.specs.Prelude.{All, find, unwrap_or, nat_le}
use Rattle.std.specs.List.{range_with_len, sum_by}
use Rattle.std.proofs.lemmas.Bool.{cases_eq, cases_lt, cases_Bool, leb-true}
use Rattle.std.proofs.lemmas.Bool.Decides.{nat_tests}
use Rattle.std.proofs.lemmas.List.{get_or_append_left, get_or-append-add, length-append}
use Rattle.std.proofs.lemmas.List.Elements.{All-head, All-tail, All-get_or, All-from_get_or}
use Rattle.std.proofs.lemmas.List.FromFn.{length-map-range_with_len, get_or-map-range_with_len}
use Rattle.std.proofs.lemmas.List.Sums.{sum_by-cons, sum_by-le}
use Rattle.beet_field.specs.Field.{IsElement}
use Rattle.beet_bids.specs.Grids.{Grid, places_of}
use Rattle.beet_bids.specs.Curves.{Curve, IsCurve, IsOfGrid}
use Rattle.beet_bids.specs.declared.curve.TheConstants.{LARGEST_QUANTITY}
use Rattle.beet_bids.specs.Books.{Book, IsBook}
use Rattle.beet_bids.specs.Sums.{supply_at, demand_at, sums_of}
use Rattle.beet_bids.specs.Outcomes.{is_reached, reached_place, clearing_place}
use Rattle.beet_bids.specs.declared.book.Bidder.{Bidder}

-- one curve
sell-rises : (grid : Grid) (curve : Curve) (j k : ℕ) → IsCurve curve → IsOfGrid grid curve → j ≤ k → k < grid.prices →
    slice_index curve.sell j ≤ slice_index curve.sell k
sell-rises grid curve j k c g h l = elim (cases_eq j k) [
  | inl e ↦ rw e (omega arith)
  | inr e ↦ c.sell_never_falls j k 0 (omega arith) (omega (arith, g.sell_length))
]

buy-falls : (grid : Grid) (curve : Curve) (j k : ℕ) → IsCurve curve → IsOfGrid grid curve → j ≤ k → k < grid.prices →
    slice_index curve.buy k ≤ slice_index curve.buy j
buy-falls grid curve j k c g h l = elim (cases_eq j k) [
  | inl e ↦ rw e (omega arith)
  | inr e ↦ c.buy_never_rises j k 0 (omega arith) (omega (arith, g.buy_length))
]

-- a sum of terms that are all at most those of another
sum-at-most : {X : Type 0} (f g : X → ℕ) (xs : List X) → All (λ x. f x ≤ g x) xs → sum_by f xs ≤ sum_by g xs
sum-at-most f g [] all = omega arith
sum-at-most f g (x ∷ xs) all =
    let first = All-head (λ x. f x ≤ g x) x xs all in
    let rest = sum-at-most f g xs (All-tail (λ x. f x ≤ g x) x xs all) in
    omega (arith, sum_by-cons f x xs, sum_by-cons g x xs, first, rest)

-- all bidders
module _ (grid : Grid) (bidders : List Bidder) (j k : ℕ) (curves : All (λ b. IsCurve b.curve) bidders)
    (of_grid : All (λ b. IsOfGrid grid b.curve) bidders)
    (up : j ≤ k) (last : k < grid.prices) where
  supply-rises : supply_at bidders j ≤ supply_at bidders k
  supply-rises =
      sum-at-most (λ (b : Bidder). slice_index b.curve.sell j) (λ (b : Bidder). slice_index b.curve.sell k) bidders
      (λ i d lt. sell-rises grid (get_or bidders i d).curve j k (curves i d lt) (of_grid i d lt) up last)

  demand-falls : demand_at bidders k ≤ demand_at bidders j
  demand-falls =
      sum-at-most (λ (b : Bidder). slice_index b.curve.buy k) (λ (b : Bidder). slice_index b.curve.buy j) bidders
      (λ i d lt. buy-falls grid (get_or bidders i d).curve j k (curves i d lt) (of_grid i d lt) up last)

-- the first number of a range at which a test gives true, or the end of the range
module _ (test : ℕ → Bool) (end : ℕ) where
  first-within : (n a : ℕ) → a + n ≡ end →
      (a ≤ unwrap_or (find test (range_with_len a n)) end) × (unwrap_or (find test (range_with_len a n)) end ≤ end)
  first-within zero a e = (omega arith, omega arith)
  first-within (suc n) a e = elim (cases_Bool (test a)) [
    | inl t ↦ rw t (omega arith, omega arith)
    | inr f ↦ let r = first-within n (a + 1) (omega arith) in rw f (omega (arith, r.0), r.1)
  ]

  first-turn : (n a k : ℕ) → a + n ≡ end → ((i j : ℕ) → i ≤ j → j < end → test i ≡ true → test j ≡ true) → a ≤ k → k < end →
      test k ≡ nat_le (unwrap_or (find test (range_with_len a n)) end) k
  first-turn zero a k e up h l = absurd (omega arith)
  first-turn (suc n) a k e up h l = elim (cases_Bool (test a)) [
    | inl t ↦
        let le : nat_le a k ≡ true = grind (arith, nat_tests) in
        rw (t, le) (up a k h l t)
    | inr f ↦ elim (cases_eq k a) [
      | inl same ↦
          let w = first-within n (a + 1) (omega arith) in
          let le : nat_le (unwrap_or (find test (range_with_len (a + 1) n)) end) a ≡ false = grind (arith, nat_tests, w) in
          rw (same, f, le) refl
      | inr later ↦ rw f (first-turn n (a + 1) k (omega arith) up (omega arith) l)
    ]
  ]

  -- where there is one, it is in the range
  first-some : (n a z : ℕ) → a + n ≡ end → find test (range_with_len a n) ≡ Some z → z < end
  first-some zero a z e some = cc some
  first-some (suc n) a z e some = elim (cases_Bool (test a)) [
    | inl t ↦ let here : Some a ≡ Some z = rw t at some in grind (arith, here)
    | inr f ↦ first-some n (a + 1) z (omega arith) (rw f at some)
  ]

-- the sums stay below 2^59
supply-small : (book : Book) → IsBook book → (k : ℕ) → k < book.grid.prices → supply_at book.bidders k < 2 ^ 59
supply-small book b k h =
    let each_small : All (λ (x : Bidder). slice_index x.curve.sell k ≤ LARGEST_QUANTITY) book.bidders =
    λ i d l. All-get_or (λ (q : ℕ). q ≤ LARGEST_QUANTITY) (get_or book.bidders i d).curve.sell k 0
    (omega (arith, (b.of_grid i d l).sell_length)) (b.curves i d l).sell_limit in
    omega (arith, sum_by-le (λ (x : Bidder). slice_index x.curve.sell k) LARGEST_QUANTITY book.bidders each_small, b.few)

demand-small : (book : Book) → IsBook book → (k : ℕ) → k < book.grid.prices → demand_at book.bidders k < 2 ^ 59
demand-small book b k h =
    let each_small : All (λ (x : Bidder). slice_index x.curve.buy k ≤ LARGEST_QUANTITY) book.bidders =
    λ i d l. All-get_or (λ (q : ℕ). q ≤ LARGEST_QUANTITY) (get_or book.bidders i d).curve.buy k 0
    (omega (arith, (b.of_grid i d l).buy_length)) (b.curves i d l).buy_limit in
    omega (arith, sum_by-le (λ (x : Bidder). slice_index x.curve.buy k) LARGEST_QUANTITY book.bidders each_small, b.few)

-- supply reaches demand from the clearing place on
pub book-turn : (book : Book) → IsBook book → (k : ℕ) → k < book.grid.prices → is_reached book k ≡ nat_le (clearing_place book) k
book-turn book b k h =
    first-turn (is_reached book) book.grid.prices book.grid.prices 0 k (omega arith)
    (λ i j l m t.
    let low : demand_at book.bidders i ≤ supply_at book.bidders i = leb-true _ _ t in
    let rises = supply-rises book.grid book.bidders i j b.curves b.of_grid l m in
    let falls = demand-falls book.grid book.bidders i j b.curves b.of_grid l m in
    grind (arith, nat_tests, low, rises, falls))
    (omega arith) h

-- the clearing place is above a place at which supply stays below demand, and at most one at which it reaches it
pub clearing-above : (book : Book) → IsBook book → (k : ℕ) → k < book.grid.prices →
    supply_at book.bidders k < demand_at book.bidders k → k < clearing_place book
clearing-above book b k h less = grind (arith, nat_tests, book-turn book b k h, less)

pub clearing-at-most : (book : Book) → IsBook book → (k : ℕ) → k < book.grid.prices →
    demand_at book.bidders k ≤ supply_at book.bidders k → clearing_place book ≤ k
clearing-at-most book b k h reached = grind (arith, nat_tests, book-turn book b k h, reached)

-- a place that is found is a place of the grid
pub reached-within : (book : Book) (z : ℕ) → reached_place book ≡ Some z → z < book.grid.prices
reached-within book z e = first-some (is_reached book) book.grid.prices book.grid.prices 0 z (omega arith) e

-- so that the number of places is no place that is found
none-past : (found : Option ℕ) (end : ℕ) → ((z : ℕ) → found ≡ Some z → z < end) → unwrap_or found end ≡ end → found ≡ None
none-past None end within past = refl
none-past (Some z) end within past = absurd (omega (arith, within z refl, past))

pub reached-none : (book : Book) → clearing_place book ≡ book.grid.prices → reached_place book ≡ None
reached-none book past = none-past (reached_place book) book.grid.prices (reached-within book) past

pub clearing-within : (book : Book) → clearing_place book ≤ book.grid.prices
clearing-within book = (first-within (is_reached book) book.grid.prices book.grid.prices 0 (omega arith)).1

-- the inputs of a book
module _ (book : Book) where
  pub length-sums : length (sums_of book) ≡ 2 * book.grid.prices
  length-sums =
      omega (
        arith,
        length-append (map (supply_at book.bidders) (places_of book.grid)) (map (demand_at book.bidders) (places_of book.grid)),
        length-map-range_with_len (supply_at book.bidders) 0 book.grid.prices,
        length-map-range_with_len (demand_at book.bidders) 0 book.grid.prices,
      )

  pub sums-supply : (k : ℕ) → k < book.grid.prices → slice_index (sums_of book) k ≡ supply_at book.bidders k
  sums-supply k h =
      let l : k < length (map (supply_at book.bidders) (places_of book.grid)) =
      omega (arith, length-map-range_with_len (supply_at book.bidders) 0 book.grid.prices) in
      get_or_append_left (map (supply_at book.bidders) (places_of book.grid)) (map (demand_at book.bidders) (places_of book.grid)) 0 k l
      ∙ get_or-map-range_with_len (supply_at book.bidders) 0 book.grid.prices k k 0 h (omega arith)

  pub sums-demand : (k : ℕ) → k < book.grid.prices → slice_index (sums_of book) (book.grid.prices + k) ≡ demand_at book.bidders k
  sums-demand k h =
      let e : book.grid.prices ≡ length (map (supply_at book.bidders) (places_of book.grid)) =
      sym (length-map-range_with_len (supply_at book.bidders) 0 book.grid.prices) in
      ap (λ n. slice_index (sums_of book) (n + k)) e
      ∙ get_or-append-add (map (supply_at book.bidders) (places_of book.grid)) (map (demand_at book.bidders) (places_of book.grid)) k 0
      ∙ get_or-map-range_with_len (demand_at book.bidders) 0 book.grid.prices k k 0 h (omega arith)

  pub sums-elements : IsBook book → All IsElement (sums_of book)
  sums-elements b =
      All-from_get_or IsElement (sums_of book) 0
      (λ i l. elim (cases_lt i book.grid.prices) [
        | inl h ↦ rw (sums-supply i h) (omega (arith, supply-small book b i h))
        | inr past ↦
            let k = i - book.grid.prices in
            let e : i ≡ book.grid.prices + k = omega arith in
            let h : k < book.grid.prices = omega (arith, length-sums) in
            rw e (rw (sums-demand k h) (omega (arith, demand-small book b k h)))
      ])

  pub small : IsBook book → (k : ℕ) → k < book.grid.prices → (supply_at book.bidders k < 2 ^ 59) × (demand_at book.bidders k < 2 ^ 59)
  small b k h = (supply-small book b k h, demand-small book b k h)
