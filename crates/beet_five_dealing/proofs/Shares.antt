-- What bidders deal among five servers, added up, are shares of the book's sums.
use Rattle.std.proofs.Common.{◌≡◌, ℕ, ◌+◌, ◌*◌, ◌-◌, ◌%◌, ◌<◌, List, [], ◌∷◌, map, length, slice_index, arith, refl}
use Rattle.std.proofs.Common.{sym, ◌∙◌, ap, inl, inr, subst}
use Rattle.std.specs.Prelude.{sum_by, All}
use Rattle.std.proofs.lemmas.Bool.{cases_lt}
use Rattle.std.proofs.lemmas.List.{get_or-append-add, get_or_append_left, get_or_past}
use Rattle.std.proofs.lemmas.List.Elements.{All-get_or, All-head, All-tail}
use Rattle.std.proofs.lemmas.List.Sums.{sum_by-cons}
use Rattle.beet_field.specs.Field.{p, IsElement}
use Rattle.beet_gates.specs.Each.{each}
use Rattle.beet_gates.proofs.EachFacts.{item-each, length-each}
use Rattle.beet_bids.specs.Books.{IsBook, Book}
use Rattle.beet_bids.specs.Curves.{Curve, IsOfGrid, quantity}
use Rattle.beet_bids.specs.Grids.{Grid}
use Rattle.beet_bids.specs.Sums.{demand_at, sums_of, supply_at}
use Rattle.beet_bids.specs.declared.book.Bidder.{Bidder}
use Rattle.beet_bids.proofs.BookSums.{length-sums, sums-demand, sums-elements, sums-supply}
use Rattle.beet_book.specs.Farmers.{BidderWithWords, book_with, farmers_of}
use Rattle.beet_book.proofs.Sums.{item-demand, item-supply, length-first}
use Rattle.beet_linear_sharing.specs.Polynomials.{AreShared, IsShared}
use Rattle.beet_linear_sharing.specs.Schemes.{five_servers}
use Rattle.beet_linear_sharing.proofs.Arithmetic.{five-laws}
use Rattle.beet_coalition.specs.Moved.{hiding}
use Rattle.beet_coalition.proofs.SumFacts.{sum-shared}
use Rattle.beet_five_dealing.specs.FiveInputs.{inputs_at, summed_share, world_of}
use Rattle.beet_book.proofs.FarmerLists.{book-whole}
use Rattle.beet_five_dealing.specs.FiveWords.{FiveWords}

-- what is sold and what is bought at a place, by the quantities of those who deal
module _ (grid : Grid) where
  abbrev OfGrid : List BidderWithWords → Type 0
  OfGrid farmers = All (λ (bidder : Bidder). IsOfGrid grid bidder.curve) (map (λ (f : BidderWithWords). f.bidder) farmers)

  sold : (curve : Curve) → IsOfGrid grid curve → (k : ℕ) → slice_index curve.sell k ≡ quantity curve (grid.prices + k)
  sold curve of k =
      sym (ap (λ n. quantity curve (n + k)) (sym of.buy_length) ∙ get_or-append-add curve.buy curve.sell k 0)

  supply-total : (farmers : List BidderWithWords) (k : ℕ) → OfGrid farmers →
      supply_at (map (λ f. f.bidder) farmers) k ≡ sum_by (λ f. quantity f.bidder.curve (grid.prices + k)) farmers
  supply-total [] k all = refl
  supply-total (f ∷ fs) k all =
      let here = sold f.bidder.curve (All-head (λ (x : Bidder). IsOfGrid grid x.curve) f.bidder (map (λ x. x.bidder) fs) all) k in
      let rest = supply-total fs k (All-tail (λ (x : Bidder). IsOfGrid grid x.curve) f.bidder (map (λ x. x.bidder) fs) all) in
      sum_by-cons (λ (x : Bidder). slice_index x.curve.sell k) f.bidder (map (λ x. x.bidder) fs)
      ∙ (λ j. here j + rest j) ∙ sym (sum_by-cons (λ x. quantity x.bidder.curve (grid.prices + k)) f fs)

  demand-total : (farmers : List BidderWithWords) (k : ℕ) → k < grid.prices → OfGrid farmers →
      demand_at (map (λ f. f.bidder) farmers) k ≡ sum_by (λ f. quantity f.bidder.curve k) farmers
  demand-total [] k h all = refl
  demand-total (f ∷ fs) k h all =
      let curve = f.bidder.curve in
      let of : IsOfGrid grid curve = All-head (λ (x : Bidder). IsOfGrid grid x.curve) f.bidder (map (λ x. x.bidder) fs) all in
      let here : slice_index curve.buy k ≡ quantity curve k =
      sym (get_or_append_left curve.buy curve.sell 0 k (omega (arith, of.buy_length))) in
      let rest = demand-total fs k h (All-tail (λ (x : Bidder). IsOfGrid grid x.curve) f.bidder (map (λ x. x.bidder) fs) all) in
      sum_by-cons (λ (x : Bidder). slice_index x.curve.buy k) f.bidder (map (λ x. x.bidder) fs)
      ∙ (λ j. here j + rest j) ∙ sym (sum_by-cons (λ x. quantity x.bidder.curve k) f fs)

  module _ (farmers : List BidderWithWords) (b : IsBook (book_with grid farmers)) where
    abbrev sums : List ℕ
    sums = sums_of (book_with grid farmers)

    abbrev total : ℕ → ℕ
    total n = sum_by (λ f. quantity f.bidder.curve n) farmers

    abbrev points : ℕ → List ℕ
    points i = each (summed_share farmers i) (2 * grid.prices)

    many : (i : ℕ) → length (points i) ≡ 2 * grid.prices
    many i = length-each (summed_share farmers i) (2 * grid.prices)

    total-shared : (n : ℕ) → IsShared five_servers (total n % p) (λ i. summed_share farmers i n)
    total-shared n =
        sum-shared five_servers five-laws (λ (f : BidderWithWords). quantity f.bidder.curve n)
        (λ (f : BidderWithWords). hiding five_servers f.words n) farmers

    element : (w : ℕ) → IsElement (slice_index sums w)
    element w = elim (cases_lt w (length sums)) [
      | inl lt ↦ All-get_or IsElement sums w 0 lt (sums-elements (book_with grid farmers) b)
      | inr past ↦ rw (get_or_past sums w 0 past) (omega arith)
    ]

    -- a wire whose points are those of a total
    wire-as : (w n : ℕ) → slice_index sums w ≡ total n →
        ((i : ℕ) → slice_index (inputs_at grid.prices farmers i) w ≡ summed_share farmers i n) →
        IsShared five_servers (slice_index sums w) (λ i. slice_index (inputs_at grid.prices farmers i) w)
    wire-as w n is here =
        let small = element w in
        let value : slice_index sums w ≡ total n % p = omega (arith, is, small) in
        record {
          numbers = (total-shared n).numbers;
          points = λ i at. here i ∙ (total-shared n).points i at
              ∙ (λ j. five_servers.share (sym value j) (total-shared n).numbers i);
        }

    wire-shared : (w : ℕ) → IsShared five_servers (slice_index sums w) (λ i. slice_index (inputs_at grid.prices farmers i) w)
    wire-shared w = elim (cases_lt w grid.prices) [
      | inl low ↦
          wire-as w (grid.prices + w)
          (sums-supply (book_with grid farmers) w low ∙ supply-total farmers w b.of_grid)
          (λ i. item-supply grid.prices (points i) w (many i) low
          ∙ item-each (summed_share farmers i) (2 * grid.prices) (grid.prices + w) (omega arith))
      | inr high ↦ elim (cases_lt w (2 * grid.prices)) [
        | inl within ↦
            let k : ℕ = w - grid.prices in
            let back : grid.prices + k ≡ w = omega arith in
            let few : k < grid.prices = omega arith in
            wire-as w k
            (ap (slice_index sums) (sym back) ∙ sums-demand (book_with grid farmers) k few ∙ demand-total farmers k few b.of_grid)
            (λ i. item-demand grid.prices (points i) w (many i) high within
            ∙ item-each (summed_share farmers i) (2 * grid.prices) k (omega arith))
        | inr beyond ↦
            let none : slice_index sums w ≡ 0 =
            get_or_past sums w 0 (omega (arith, beyond, length-sums (book_with grid farmers))) in
            record {
              numbers = λ m. 0;
              points = λ i at.
                  get_or_past (inputs_at grid.prices farmers i) w 0
                  (omega (arith, beyond, length-first grid.prices (points i) (many i)))
                  ∙ sym (five-laws.nothing i at) ∙ (λ j. five_servers.share (sym none j) (λ m. 0) i);
            }
      ]
    ]

    pub inputs-shared : AreShared five_servers sums (inputs_at grid.prices farmers)
    inputs-shared = record {
      lengths = λ i at. length-first grid.prices (points i) (many i) ∙ sym (length-sums (book_with grid farmers));
      shared = wire-shared;
      elements = element;
    }

-- the inputs of a book with a list of words for each bidder
pub book-shared : (book : Book) (words : FiveWords) → IsBook book → length words.bidders ≡ length book.bidders →
    AreShared five_servers (sums_of book) (world_of book words).inputs
book-shared book words is long =
    let farmers = farmers_of book.bidders words.bidders in
    let whole : book_with book.grid farmers ≡ book = book-whole book words.bidders long in
    subst (λ (x : Book). AreShared five_servers (sums_of x) (inputs_at book.grid.prices farmers)) whole
    (inputs-shared book.grid farmers (subst IsBook (sym whole) is))
