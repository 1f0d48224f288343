-- The inputs of a book's auction lie on lines with the book's sums.
use Rattle.std.proofs.Common.{◌≡◌, ℕ, ◌+◌, ◌*◌, ◌-◌, ◌%◌, ◌<◌, ◌≤◌, List, [], ◌∷◌, map, length, slice_index, arith}
use Rattle.std.proofs.Common.{refl, sym, ◌∙◌, ap, inl, inr}
use Rattle.std.specs.Prelude.{sum_by, All}
use Rattle.std.proofs.lemmas.Bool.{cases_lt}
use Rattle.std.proofs.lemmas.List.{get_or-append-add, get_or_append_left}
use Rattle.std.proofs.lemmas.List.Elements.{All-head, All-tail, All-get_or}
use Rattle.std.proofs.lemmas.List.Sums.{sum_by-cons}
use Rattle.std.proofs.Math.ListN.{get_or-eq_default}
use Rattle.beet_field.specs.Field.{p, IsElement}
use Rattle.beet_field.specs.declared.point.Point.{Point}
use Rattle.beet_shamir.specs.Line.{point_of}
use Rattle.beet_shamir.proofs.Laws.{zero-point}
use Rattle.beet_gates.specs.Each.{each}
use Rattle.beet_gates.proofs.EachFacts.{length-each, item-each}
use Rattle.beet_bids.specs.Books.{IsBook}
use Rattle.beet_bids.specs.Curves.{quantity, IsOfGrid}
use Rattle.beet_bids.specs.Grids.{Grid}
use Rattle.beet_bids.specs.Sums.{supply_at, demand_at, sums_of}
use Rattle.beet_bids.proofs.BookSums.{length-sums, sums-supply, sums-demand, sums-elements}
use Rattle.beet_book.specs.Totals.{supply_first}
use Rattle.beet_book.proofs.Sums.{length-first, item-supply, item-demand}
use Rattle.beet_sharing.specs.Lines.{OnLines}
use Rattle.beet_sharing.proofs.Lined.{member-trio}
use Rattle.beet_book.specs.Farmers.{BidderWithWords, book_with, book_inputs, summed_point, slope_for}
use Rattle.beet_auction.proofs.Inputs.{points-summed}

module _ (grid : Grid) where
  -- what is sold at a place is the quantity there, after those that are bought
  supply-quantities : (farmers : List BidderWithWords) (k : ℕ) →
      All (λ bidder. IsOfGrid grid bidder.curve) (map (λ farmer. farmer.bidder) farmers) →
      supply_at (map (λ farmer. farmer.bidder) farmers) k ≡ sum_by (λ farmer. quantity farmer.bidder.curve (grid.prices + k)) farmers
  supply-quantities [] k all = refl
  supply-quantities (farmer ∷ farmers) k all =
      let curve = farmer.bidder.curve in
      let first : IsOfGrid grid curve = All-head (λ bidder. IsOfGrid grid bidder.curve) farmer.bidder (map (λ f. f.bidder) farmers) all in
      let here : quantity curve (grid.prices + k) ≡ slice_index curve.sell k =
      ap (λ n. quantity curve (n + k)) (sym first.buy_length) ∙ get_or-append-add curve.buy curve.sell k 0 in
      sum_by-cons (λ bidder. slice_index bidder.curve.sell k) farmer.bidder (map (λ f. f.bidder) farmers)
      ∙ ap (λ n. slice_index curve.sell k + n) (supply-quantities farmers k
      (All-tail (λ bidder. IsOfGrid grid bidder.curve) farmer.bidder (map (λ f. f.bidder) farmers) all))
      ∙ ap (λ n. n + sum_by (λ f. quantity f.bidder.curve (grid.prices + k)) farmers) (sym here)
      ∙ sym (sum_by-cons (λ f. quantity f.bidder.curve (grid.prices + k)) farmer farmers)

  demand-quantities : (farmers : List BidderWithWords) (k : ℕ) → k < grid.prices →
      All (λ bidder. IsOfGrid grid bidder.curve) (map (λ farmer. farmer.bidder) farmers) →
      demand_at (map (λ farmer. farmer.bidder) farmers) k ≡ sum_by (λ farmer. quantity farmer.bidder.curve k) farmers
  demand-quantities [] k h all = refl
  demand-quantities (farmer ∷ farmers) k h all =
      let curve = farmer.bidder.curve in
      let first : IsOfGrid grid curve = All-head (λ bidder. IsOfGrid grid bidder.curve) farmer.bidder (map (λ f. f.bidder) farmers) all in
      let here : quantity curve k ≡ slice_index curve.buy k =
      get_or_append_left curve.buy curve.sell 0 k (omega (arith, first.buy_length)) in
      sum_by-cons (λ bidder. slice_index bidder.curve.buy k) farmer.bidder (map (λ f. f.bidder) farmers)
      ∙ ap (λ n. slice_index curve.buy k + n) (demand-quantities farmers k h
      (All-tail (λ bidder. IsOfGrid grid bidder.curve) farmer.bidder (map (λ f. f.bidder) farmers) all))
      ∙ ap (λ n. n + sum_by (λ f. quantity f.bidder.curve k) farmers) (sym here)
      ∙ sym (sum_by-cons (λ f. quantity f.bidder.curve k) farmer farmers)

  -- the summed slopes, supply first
  abbrev pub slopes_of : List BidderWithWords → List ℕ
  slopes_of farmers = supply_first grid.prices (each (λ n. sum_by (λ farmer. slope_for farmer n) farmers % p) (2 * grid.prices))

  past : (xs : List ℕ) (w : ℕ) → length xs ≡ 2 * grid.prices → 2 * grid.prices ≤ w → slice_index xs w ≡ 0
  past xs w h le = get_or-eq_default xs 0 (omega arith)

  module _ (farmers : List BidderWithWords) (b : IsBook (book_with grid farmers)) where
    on-line : (i : Point) (w : ℕ) →
        slice_index (supply_first grid.prices (each (summed_point farmers i) (2 * grid.prices))) w
        ≡ point_of (slice_index (sums_of (book_with grid farmers)) w) (slice_index (slopes_of farmers) w) i
    on-line i w =
        let xs = each (summed_point farmers i) (2 * grid.prices) in
        let ss = each (λ n. sum_by (λ farmer. slope_for farmer n) farmers % p) (2 * grid.prices) in
        let prices = grid.prices in
        let long = length-each (summed_point farmers i) (2 * prices) in
        let many = length-each (λ n. sum_by (λ farmer. slope_for farmer n) farmers % p) (2 * prices) in
        elim (cases_lt w prices) [
          | inl low ↦
              item-supply prices xs w long low ∙ item-each (summed_point farmers i) (2 * prices) (prices + w) (omega arith)
              ∙ points-summed farmers i (prices + w)
              ∙ ap (λ v. point_of v (sum_by (λ farmer. slope_for farmer (prices + w)) farmers % p) i)
              (sym (supply-quantities farmers w b.of_grid) ∙ sym (sums-supply (book_with grid farmers) w low))
              ∙ ap (λ s. point_of (slice_index (sums_of (book_with grid farmers)) w) s i)
              (sym (item-each (λ n. sum_by (λ farmer. slope_for farmer n) farmers % p) (2 * prices) (prices + w)
              (omega arith)) ∙ sym (item-supply prices ss w many low))
          | inr high ↦ elim (cases_lt w (2 * prices)) [
            | inl within ↦
                let k = w - prices in
                let back : prices + k ≡ w = omega arith in
                let few : k < prices = omega arith in
                item-demand prices xs w long high within ∙ item-each (summed_point farmers i) (2 * prices) k (omega arith)
                ∙ points-summed farmers i k
                ∙ ap (λ v. point_of v (sum_by (λ farmer. slope_for farmer k) farmers % p) i)
                (sym (demand-quantities farmers k few b.of_grid) ∙ sym (sums-demand (book_with grid farmers) k few)
                ∙ ap (λ n. slice_index (sums_of (book_with grid farmers)) n) back)
                ∙ ap (λ s. point_of (slice_index (sums_of (book_with grid farmers)) w) s i)
                (sym (item-each (λ n. sum_by (λ farmer. slope_for farmer n) farmers % p) (2 * prices) k (omega arith))
                ∙ sym (item-demand prices ss w many high within))
            | inr beyond ↦
                past (supply_first prices xs) w (length-first grid.prices xs long) beyond ∙ zero-point i
                ∙ ap (λ v. point_of v 0 i) (sym (past (sums_of (book_with grid farmers)) w (length-sums (book_with grid farmers)) beyond))
                ∙ ap (λ s. point_of (slice_index (sums_of (book_with grid farmers)) w) s i)
                (sym (past (supply_first prices ss) w (length-first grid.prices ss many) beyond))
          ]
        ]

    element : (w : ℕ) → IsElement (slice_index (sums_of (book_with grid farmers)) w)
    element w = elim (cases_lt w (2 * grid.prices)) [
      | inl within ↦ All-get_or IsElement (sums_of (book_with grid farmers)) w 0
          (omega (arith, length-sums (book_with grid farmers))) (sums-elements (book_with grid farmers) b)
      | inr beyond ↦ rw (past (sums_of (book_with grid farmers)) w (length-sums (book_with grid farmers)) beyond) (omega arith)
    ]

    pub book-lines : OnLines (sums_of (book_with grid farmers)) (slopes_of farmers) (book_inputs grid.prices farmers)
    book-lines =
        let long = length-sums (book_with grid farmers) in
        let many = length-each (λ n. sum_by (λ farmer. slope_for farmer n) farmers % p) (2 * grid.prices) in
        record {
          paired = omega (
            arith,
            length-first grid.prices (each (λ n. sum_by (λ farmer. slope_for farmer n) farmers % p) (2 * grid.prices)) many,
          );
          lengths = λ i. ap length (member-trio (λ j. supply_first grid.prices (each (summed_point farmers j) (2 * grid.prices))) i)
              ∙ (let l = length-first grid.prices (each (summed_point farmers i) (2 * grid.prices))
              (length-each (summed_point farmers i) (2 * grid.prices)) in omega (arith, l));
          points = λ i w. ap (λ l. slice_index l w) (member-trio
              (λ j. supply_first grid.prices (each (summed_point farmers j) (2 * grid.prices))) i) ∙ on-line i w;
          elements = element;
        }
