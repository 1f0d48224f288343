-- The sums of a book's first bidders, and of all.
use Rattle.std.proofs.Common.{◌≡◌, ℕ, ◌<◌, ◌≤◌, ◌+◌, ◌-◌, ◌*◌, ◌%◌, ◌++◌, inl, inr, List, length, take}
use Rattle.std.proofs.Common.{get_or, slice_index, replicate, sym, ap, ◌∙◌, arith}
use Rattle.std.specs.Prelude.{All}
use Rattle.std.proofs.lemmas.Bool.{cases_lt}
use Rattle.std.proofs.lemmas.List.{ext_get_or, get_or_append_left, get_or-append-add, get_or_default, get_or-replicate}
use Rattle.std.proofs.lemmas.List.{length-replicate, length-take-le}
use Rattle.std.proofs.lemmas.List.Elements.{All-take}
use Rattle.std.proofs.lemmas.List.Sums.{sum_by_more}
use Rattle.beet_field.specs.Field.{p, IsElement}
use Rattle.beet_bids.specs.Books.{Book, IsBook}
use Rattle.beet_bids.specs.Curves.{IsCurve, IsOfGrid}
use Rattle.beet_bids.specs.Sums.{supply_at, demand_at, sums_of}
use Rattle.beet_bids.specs.declared.book.Bidder.{Bidder}
use Rattle.beet_bids.proofs.BookSums.{length-sums, small, sums-demand, sums-elements, sums-supply}

-- the book of the first bidders
abbrev pub first_of : Book → ℕ → Book
first_of book n = record book { bidders = take n book.bidders }

-- sums by their places
sums-by_place : (book : Book) (items : List ℕ) → length items ≡ 2 * book.grid.prices →
    ((k : ℕ) → k < book.grid.prices → slice_index items k ≡ supply_at book.bidders k) →
    ((k : ℕ) → k < book.grid.prices → slice_index items (book.grid.prices + k) ≡ demand_at book.bidders k) →
    items ≡ sums_of book
sums-by_place book items long supply demand =
    ext_get_or 0 items (sums_of book) (long ∙ sym (length-sums book))
    (λ k lt. elim (cases_lt k book.grid.prices) [
      | inl h ↦ supply k h ∙ sym (sums-supply book k h)
      | inr past ↦
          let n = k - book.grid.prices in
          let e : k ≡ book.grid.prices + n = omega arith in
          let h : n < book.grid.prices = omega (arith, long) in
          ap (slice_index items) e ∙ demand n h ∙ sym (sums-demand book n h) ∙ sym (ap (slice_index (sums_of book)) e)
    ])

-- with no bidder all sums are zero
pub none-summed : (book : Book) (count : ℕ) → count ≡ 2 * book.grid.prices →
    replicate count 0 ≡ sums_of (first_of book 0)
none-summed book count e =
    sums-by_place (first_of book 0) (replicate count 0) (length-replicate count 0 ∙ e)
    (λ k h. get_or-replicate count k 0 0 (omega (arith, e)))
    (λ k h. get_or-replicate count (book.grid.prices + k) 0 0 (omega (arith, e)))

-- the sums of the first bidders are elements of the field
pub first-elements : (book : Book) (i : ℕ) → IsBook book → i ≤ length book.bidders →
    All IsElement (sums_of (first_of book i))
first-elements book i b within =
    sums-elements (first_of book i) (record {
      few = omega (arith, length-take-le i book.bidders within, b.few);
      curves = All-take (λ (x : Bidder). IsCurve x.curve) i book.bidders b.curves;
      of_grid = All-take (λ (x : Bidder). IsOfGrid book.grid x.curve) i book.bidders b.of_grid;
    })

-- one bidder more
pub bidder-summed : (book : Book) (i : ℕ) (bidder : Bidder) (before after : List ℕ) → IsBook book →
    i < length book.bidders → bidder ≡ get_or book.bidders i bidder → before ≡ sums_of (first_of book i) →
    length after ≡ length before →
    ((k : ℕ) → k < length before →
    slice_index after k ≡ slice_index before k + slice_index (bidder.curve.sell ++ bidder.curve.buy) k) →
    after ≡ sums_of (first_of book (i + 1))
bidder-summed book i bidder before after b lt is so_far same_length added =
    let prices = book.grid.prices in
    let sell = bidder.curve.sell in
    let buy = bidder.curve.buy in
    let long : length before ≡ 2 * prices = ap length so_far ∙ length-sums (first_of book i) in
    let sell_length : length sell ≡ prices =
    ap (λ (x : Bidder). length x.curve.sell) is ∙ (b.of_grid i bidder lt).sell_length in
    sums-by_place (first_of book (i + 1)) after (same_length ∙ long)
    (λ k h.
    let sold : Bidder → ℕ = λ x. slice_index x.curve.sell k in
    let here : slice_index before k ≡ supply_at (take i book.bidders) k =
    ap (λ l. slice_index l k) so_far ∙ sums-supply (first_of book i) k h in
    let within = get_or_append_left sell buy 0 k (omega (arith, sell_length)) in
    let more = sum_by_more sold book.bidders i bidder lt in
    omega (arith, added k (omega (arith, long)), here, within, ap sold is, more))
    (λ k h.
    let bought : Bidder → ℕ = λ x. slice_index x.curve.buy k in
    let here : slice_index before (prices + k) ≡ demand_at (take i book.bidders) k =
    ap (λ l. slice_index l (prices + k)) so_far ∙ sums-demand (first_of book i) k h in
    let past = ap (λ n. slice_index (sell ++ buy) (n + k)) (sym sell_length) ∙ get_or-append-add sell buy k 0 in
    let more = sum_by_more bought book.bidders i bidder lt in
    omega (arith, added (prices + k) (omega (arith, long)), here, past, ap bought is, more))

-- a sum that is read at a place, and reduced
module _ (book : Book) (b : IsBook book) (sums : List ℕ) (are : sums ≡ sums_of book) (at k sum value : ℕ)
    (within : k < book.grid.prices) (read : sum ≡ get_or sums at sum) (reduced : value ≡ sum % p) where
  item : at < 2 * book.grid.prices → sum ≡ slice_index (sums_of book) at
  item h =
      read ∙ get_or_default sums at sum 0 (omega (arith, h, ap length are, length-sums book))
      ∙ ap (λ l. slice_index l at) are

  pub supply-read : at ≡ k → value ≡ supply_at book.bidders k
  supply-read e =
      let is = item (omega (arith, e, within)) ∙ ap (slice_index (sums_of book)) e ∙ sums-supply book k within in
      omega (arith, is, (small book b k within).0, reduced)

  pub demand-read : at ≡ book.grid.prices + k → value ≡ demand_at book.bidders k
  demand-read e =
      let is = item (omega (arith, e, within)) ∙ ap (slice_index (sums_of book)) e ∙ sums-demand book k within in
      omega (arith, is, (small book b k within).1, reduced)
