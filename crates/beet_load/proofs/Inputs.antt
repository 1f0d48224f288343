-- The inputs of the servers are points of lines with the sums of the book.
use Rattle.std.proofs.Common.{◌≡◌, ◌≤◌, ◌<◌, ℕ, ◌+◌, ◌*◌, ◌-◌, List, length, get_or, All, inl, inr, arith, refl, sym, ap, ◌∙◌, subst}
use Rattle.std.specs.Prelude.{slice_index}
use Rattle.std.proofs.lemmas.List.Elements.{All-map}
use Rattle.std.proofs.lemmas.Bool.{cases_lt}
use Rattle.std.proofs.lemmas.Grind.{same_number_lists}
use Rattle.std.proofs.lemmas.List.{get_or-map}
use Rattle.beet_field.specs.declared.point.Point.{Point}
use Rattle.beet_field.specs.declared.point.Point.TheVariants.{One, Two, Three}
use Rattle.beet_field.specs.declared.trio.Trio.{Trio}
use Rattle.beet_shamir.specs.Line.{point_of}
use Rattle.beet_bids.specs.Books.{IsBook}
use Rattle.beet_bids.specs.Curves.{Curve, IsCurve, IsOfGrid}
use Rattle.beet_bids.specs.Grids.{Grid}
use Rattle.beet_book.specs.Dealing.{points_at, AreShares}
use Rattle.beet_book.specs.Totals.{Totals, supply_first, summed_quantities, wires_of}
use Rattle.beet_book.specs.declared.entries.Entry.{Entry}
use Rattle.beet_book.proofs.Pairs.{length-pairwise, item-pairwise}
use Rattle.beet_book.proofs.Sums.{length-first, item-supply, item-demand}
use Rattle.beet_book.proofs.Summed.{supply-summed, demand-summed, length-summed}
use Rattle.beet_bids.specs.Sums.{sums_of}
use Rattle.beet_bids.proofs.BookSums.{length-sums, sums-supply, sums-demand}
use Rattle.beet_load.specs.Collecting.{curves_of, AreCollected}
use Rattle.beet_load.specs.Farmers.{bidders_of}
use Rattle.beet_load.specs.Loading.{IsKeptOf}
use Rattle.beet_book.specs.Farmers.{BidderWithWords, book_with}
use Rattle.beet_load.specs.Servers.{ServerWords}
use Rattle.beet_load.proofs.Summing.{sum_of_bidders, map_length}
use Rattle.beet_words.specs.declared.bundle.TheConstants.{MOST_BIDDERS}

-- the points of lines, with supply first
points-first : (prices : ℕ) (v s : List ℕ) (at : Point) → length v ≡ 2 * prices → length s ≡ 2 * prices →
    supply_first prices (points_at v s at) ≡ points_at (supply_first prices v) (supply_first prices s) at
points-first prices v s at h i =
    let f = λ (value slope : ℕ). point_of value slope at in
    let v' = supply_first prices v in
    let s' = supply_first prices s in
    let a : length (points_at v s at) ≡ 2 * prices = omega (arith, length-pairwise f v s, h, i) in
    let b = length-first prices v h in
    let c = length-first prices s i in
    let d = length-first prices (points_at v s at) a in
    let e = length-pairwise f v' s' in
    same_number_lists (supply_first prices (points_at v s at)) (points_at v' s' at) (omega (arith, b, c, d, e))
    (λ k lt.
    let within : k < 2 * prices = omega (arith, lt, d) in
    elim (cases_lt k prices) [
      | inl low ↦
          item-supply prices (points_at v s at) k a low
          ∙ item-pairwise f v s (prices + k) (omega (arith, h, low)) (omega (arith, i, low))
          ∙ ap (λ x. point_of x (get_or s (prices + k) 0) at) (sym (item-supply prices v k h low))
          ∙ ap (λ x. point_of (get_or v' k 0) x at) (sym (item-supply prices s k i low))
          ∙ sym (item-pairwise f v' s' k (omega (arith, b, within)) (omega (arith, c, within)))
      | inr high ↦
          item-demand prices (points_at v s at) k a high within
          ∙ item-pairwise f v s (k - prices) (omega (arith, h, within)) (omega (arith, i, within))
          ∙ ap (λ x. point_of x (get_or s (k - prices) 0) at) (sym (item-demand prices v k h high within))
          ∙ ap (λ x. point_of (get_or v' k 0) x at) (sym (item-demand prices s k i high within))
          ∙ sym (item-pairwise f v' s' k (omega (arith, b, within)) (omega (arith, c, within)))
    ])

-- the sums of a book are the summed quantities, with supply first
sums-first : (grid : Grid) (farmers : List BidderWithWords) → All (IsOfGrid grid) (curves_of farmers) →
    supply_first grid.prices (summed_quantities grid.prices (curves_of farmers)) ≡ sums_of (book_with grid farmers)
sums-first grid farmers all =
    let prices = grid.prices in
    let book = book_with grid farmers in
    let xs = summed_quantities prices (curves_of farmers) in
    let a = length-first prices xs (length-summed prices (curves_of farmers)) in
    let b = length-sums book in
    let long = λ (i : ℕ) (d : Curve) (h : i < length (curves_of farmers)). (all i d h).buy_length in
    same_number_lists (supply_first prices xs) (sums_of book) (omega (arith, a, b))
    (λ k lt.
    let within : k < 2 * prices = omega (arith, lt, a) in
    elim (cases_lt k prices) [
      | inl low ↦
          supply-summed prices k (curves_of farmers) low long
          ∙ sum_of_bidders (λ curve. slice_index curve.sell k) farmers
          ∙ sym (sums-supply book k low)
      | inr high ↦
          let j = k - prices in
          let few : j < prices = omega (arith, within, high) in
          let back : prices + j ≡ k = omega (arith, high) in
          ap (λ n. get_or (supply_first prices xs) n 0) (sym back)
          ∙ demand-summed prices j (curves_of farmers) few long
          ∙ sum_of_bidders (λ curve. slice_index curve.buy j) farmers
          ∙ sym (sums-demand book j few)
          ∙ ap (λ n. get_or (sums_of book) n 0) back
    ])

-- the wires carry what the totals do, with supply first
shares-first : (totals : Totals) (v : List ℕ) → length v ≡ 2 * totals.prices → AreShares v totals.points →
    AreShares (supply_first totals.prices v) (wires_of totals)
shares-first totals v h x =
    let prices = totals.prices in
    let i : length x.slopes ≡ 2 * prices = x.paired ∙ h in
    record {
      slopes = supply_first prices x.slopes;
      paired = length-first prices x.slopes i ∙ sym (length-first prices v h);
      shares = ap (λ points. wires_of (record { prices = prices; points = points })) x.shares
          ∙ rw (
            ← points-first prices v x.slopes One h i,
            ← points-first prices v x.slopes Two h i,
            ← points-first prices v x.slopes Three h i,
          ) refl;
    }

-- the points of all bidders are added up: the inputs are shares of the sums of their book
pub inputs-shares : (grid : Grid) (totals : Totals) (farmers : List BidderWithWords) (wires : Trio (List ℕ)) →
    AreShares (summed_quantities grid.prices (curves_of farmers)) totals.points → totals.prices ≡ grid.prices →
    All (IsOfGrid grid) (curves_of farmers) → wires ≡ wires_of totals → AreShares (sums_of (book_with grid farmers)) wires
inputs-shares grid totals farmers wires shares prices of_grid e =
    let v = summed_quantities grid.prices (curves_of farmers) in
    let x = shares-first totals v (length-summed grid.prices (curves_of farmers) ∙ ap (λ n. 2 * n) (sym prices)) shares in
    rw (e, ← sums-first grid farmers of_grid) (subst (λ n. AreShares (supply_first n v) (wires_of totals)) prices x)

-- what holds of each curve holds of each bidder's
each-bidder : (P : Curve → Type 0) (farmers : List BidderWithWords) → All P (curves_of farmers) →
    All (λ bidder. P bidder.curve) (bidders_of farmers)
each-bidder P farmers all = All-map (λ bidder. P bidder.curve) (λ farmer. farmer.bidder) farmers
    (λ i d h. subst P (get_or-map (λ farmer. farmer.bidder.curve) farmers i d d.bidder.curve h)
    (all i d.bidder.curve (rw (map_length (λ farmer. farmer.bidder.curve) farmers) h)))

-- bidders with curves of a grid make a book
pub is-book : (grid : Grid) (farmers : List BidderWithWords) → All IsCurve (curves_of farmers) → All (IsOfGrid grid) (curves_of farmers) →
    length farmers ≤ MOST_BIDDERS → IsBook (book_with grid farmers)
is-book grid farmers curves of_grid few = record {
  few = rw (map_length (λ farmer. farmer.bidder) farmers) few;
  curves = each-bidder IsCurve farmers curves;
  of_grid = each-bidder (IsOfGrid grid) farmers of_grid;
}

-- what is kept of an auction whose bidders are added up
pub kept_of_all : (grid : Grid) (entries : List Entry) (servers : Trio ServerWords) (totals : Totals)
    (farmers : List BidderWithWords) (wires : Trio (List ℕ)) →
    length entries ≤ MOST_BIDDERS → AreCollected grid entries totals farmers → wires ≡ wires_of totals →
    IsKeptOf (record { grid = grid; servers = servers; inputs = wires }) (record { grid = grid; servers = servers; farmers = farmers })
kept_of_all grid entries servers totals farmers wires few c e =
    let a = c.adds in
    record {
      grid = refl;
      servers = refl;
      book = is-book grid farmers a.curves a.of_grid (rw c.many few);
      shares = inputs-shares grid totals farmers wires a.shares a.prices a.of_grid e;
    }
