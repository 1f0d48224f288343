-- The views of three servers that run the auction of a book are of one run.
use Rattle.std.proofs.Common.{◌≡◌, ◌<◌, ◌≤◌, ◌*◌, ◌%◌, ℕ, Bool, true, false, List, [], map, length, get_or, slice_index}
use Rattle.std.proofs.Common.{Some, None, All, arith, refl, sym, ◌∙◌, ap, subst, length-append}
use Rattle.std.specs.Prelude.{IfSome, if◌then◌else◌, sum_by}
use Rattle.std.proofs.lemmas.List.{get_or-map, length-map}
use Rattle.std.proofs.lemmas.Simd.{map-map}
use Rattle.beet_field.specs.Field.{p}
use Rattle.beet_field.specs.Trio.{member, trio_of}
use Rattle.beet_field.specs.declared.point.Point.{Point}
use Rattle.beet_field.specs.declared.point.Point.TheVariants.{One, Two, Three}
use Rattle.beet_field.specs.declared.trio.Trio.{Trio}
use Rattle.beet_words.specs.Bundles.{Words}
use Rattle.beet_words.specs.Words.{accepted}
use Rattle.beet_gates.specs.Each.{each}
use Rattle.beet_gates.proofs.EachFacts.{each-same, item-each, length-each, list-each, map-each}
use Rattle.beet_bids.specs.Books.{Book, IsBook}
use Rattle.beet_bids.specs.Curves.{IsCurve, IsOfGrid}
use Rattle.beet_bids.specs.Grids.{Grid}
use Rattle.beet_bids.specs.declared.book.Bidder.{Bidder}
use Rattle.beet_plan.specs.Auction.{auction_over, most_rounds}
use Rattle.beet_book.specs.Dealing.{AreShares, dealt_points, quantities}
use Rattle.beet_book.specs.Farmers.{BidderWithWords, book_inputs, book_with, farmers_of, point_for, summed_point}
use Rattle.beet_book.specs.PointSums.{inputs_at, sum_at}
use Rattle.beet_book.specs.Totals.{points_on, supply_first}
use Rattle.beet_book.proofs.Deals.{dealt-shares}
use Rattle.beet_book.proofs.FarmerLists.{book-whole, farmers-bidders, farmers-words}
use Rattle.beet_sharing.specs.Runs.{Setup, rounds_among}
use Rattle.beet_sharing.proofs.Lined.{member-trio}
use Rattle.beet_sharing.specs.Seen.{rounds_seen}
use Rattle.beet_auction.specs.Setups.{auction_setup, book_setup}
use Rattle.beet_load.specs.Counts.{counts_of}
use Rattle.beet_load.specs.Servers.{HasEnough}
use Rattle.beet_load.specs.Wholes.{CanDeal, CanStart}
use Rattle.beet_view.specs.BookViews.{names, seen_at, view_for}
use Rattle.beet_view.specs.Views.{Viewed}
use Rattle.beet_view.specs.declared.view.Seen.{Seen}
use Rattle.beet_audit.specs.Audits.{all_points, bidder_at, marks_in, points_of_bidder, recombined_bidder, recombined_book, run_of, words_in}
use Rattle.beet_audit.specs.OneRuns.{Bids, KeepsBid, OneRun}
use Rattle.beet_audit.proofs.BidFacts.{recombines}
use Rattle.beet_audit.proofs.FinishFacts.{sum-each}
use Rattle.beet_audit.proofs.PointFacts.{item-shares, lengths-shares, trio-same}

if-some : {A : Type 0} (P : A → Type 0) (test : Bool) (x : A) → P x → IfSome (if test then Some x else None) P
if-some P true x h = h
if-some P false x h = tt

-- the points that a server sees of a bidder
abbrev seen_points : Grid → BidderWithWords → Trio (List ℕ)
seen_points grid farmer = trio_of (λ s. each (point_for farmer s) (2 * grid.prices))

module _ (grid : Grid) (farmer : BidderWithWords) (of_grid : IsOfGrid grid farmer.bidder.curve)
    (enough : 2 * grid.prices ≤ length (accepted farmer.words)) where
  many : length (quantities farmer.bidder.curve) ≡ 2 * grid.prices
  many = omega (arith, length-append farmer.bidder.curve.buy farmer.bidder.curve.sell, of_grid.buy_length, of_grid.sell_length)

  -- are those that it deals
  pub seen-dealt : seen_points grid farmer ≡ dealt_points farmer.bidder.curve (accepted farmer.words)
  seen-dealt =
      let vs = quantities farmer.bidder.curve in
      let ss = accepted farmer.words in
      let n = 2 * grid.prices in
      trio-same (seen_points grid farmer) (dealt_points farmer.bidder.curve ss) n
      (record {
        one = length-each (point_for farmer One) n;
        two = length-each (point_for farmer Two) n;
        three = length-each (point_for farmer Three) n;
      })
      (lengths-shares vs ss n many enough)
      (λ k lt.
      let here : points_on (seen_points grid farmer) k
      ≡ record { one = point_for farmer One k; two = point_for farmer Two k; three = point_for farmer Three k } =
      λ j. record {
        one = item-each (point_for farmer One) n k lt j;
        two = item-each (point_for farmer Two) n k lt j;
        three = item-each (point_for farmer Three) n k lt j;
      } in
      here ∙ sym (item-shares vs ss k (omega (arith, many, lt)) (omega (arith, enough, lt))))

  pub seen-shares : AreShares (quantities farmer.bidder.curve) (seen_points grid farmer)
  seen-shares = dealt-shares (quantities farmer.bidder.curve) (accepted farmer.words) (seen_points grid farmer)
      (omega (arith, many, enough)) seen-dealt

module _ (book : Book) (words : Words) (b : IsBook book) (can : CanStart book words) where
  abbrev grid : Grid
  grid = book.grid

  abbrev farmers : List BidderWithWords
  farmers = farmers_of book.bidders words.bidders

  abbrev views : Trio Viewed
  views = trio_of (view_for book words)

  abbrev nobody : BidderWithWords
  nobody = record { bidder = record { known = None; curve = record { buy = []; sell = [] } }; words = [] }

  abbrev farmer : ℕ → BidderWithWords
  farmer i = get_or farmers i nobody

  whole : IsBook (book_with grid farmers)
  whole = subst IsBook (sym (book-whole book words.bidders can.lists)) b

  at-bidder : (P : Bidder → Type 0) → All P (map (λ (f : BidderWithWords). f.bidder) farmers) → (i : ℕ) →
      i < length farmers → P (farmer i).bidder
  at-bidder P h i lt =
      subst P (get_or-map (λ (f : BidderWithWords). f.bidder) farmers i nobody nobody.bidder lt)
      (h i nobody.bidder (omega (arith, length-map farmers (λ (f : BidderWithWords). f.bidder), lt)))

  is-curve : (i : ℕ) → i < length farmers → IsCurve (farmer i).bidder.curve
  is-curve = at-bidder (λ x. IsCurve x.curve) whole.curves

  of-grid : (i : ℕ) → i < length farmers → IsOfGrid grid (farmer i).bidder.curve
  of-grid = at-bidder (λ x. IsOfGrid grid x.curve) whole.of_grid

  enough : (i : ℕ) → i < length farmers → 2 * grid.prices ≤ length (accepted (farmer i).words)
  enough i lt =
      let all : All (CanDeal (counts_of grid)) (map (λ (f : BidderWithWords). f.words) farmers) = subst (All (CanDeal (counts_of grid)))
      (farmers-words book.bidders words.bidders can.lists) can.bidders in
      let here = all i [] (omega (arith, length-map farmers (λ (f : BidderWithWords). f.words), lt)) in
      let same = get_or-map (λ (f : BidderWithWords). f.words) farmers i nobody [] lt in
      (subst (CanDeal (counts_of grid)) same here).enough

  count : length views.one.bidders ≡ length farmers
  count = length-map farmers (seen_at grid One)

  seen-by : (s : Point) (i : ℕ) → i < length farmers → bidder_at (view_for book words s) i ≡ seen_at grid s (farmer i)
  seen-by s i lt = get_or-map (seen_at grid s) farmers i nobody (record { known = None; points = []; own = None }) lt

  points-of : (i : ℕ) → i < length farmers → points_of_bidder views i ≡ seen_points grid (farmer i)
  points-of i lt = λ j. record {
    one = (seen-by One i lt j).points;
    two = (seen-by Two i lt j).points;
    three = (seen-by Three i lt j).points;
  }

  same-marks : (s : Point) → marks_in (member views s) ≡ marks_in views.one
  same-marks s =
      ap marks_in (member-trio (view_for book words) s) ∙ map-map (λ (seen : Seen). seen.known) (seen_at grid s) farmers
      ∙ sym (map-map (λ (seen : Seen). seen.known) (seen_at grid One) farmers)

  keeps : (i : ℕ) → i < length farmers → (s : Point) →
      IfSome (bidder_at (member views s) i).own (KeepsBid grid (farmer i).bidder.curve (points_of_bidder views i))
  keeps i lt s =
      let f = farmer i in
      let keep : KeepsBid grid f.bidder.curve (points_of_bidder views i) (f.bidder.curve, f.words) = record {
        bid = refl;
        words = enough i lt;
        deals = points-of i lt ∙ seen-dealt grid f (of-grid i lt) (enough i lt);
      } in
      subst (λ (view : Viewed). IfSome (bidder_at view i).own (KeepsBid grid f.bidder.curve (points_of_bidder views i)))
      (sym (member-trio (view_for book words) s))
      (subst (λ (seen : Seen). IfSome seen.own (KeepsBid grid f.bidder.curve (points_of_bidder views i))) (sym (seen-by s i lt))
      (if-some (KeepsBid grid f.bidder.curve (points_of_bidder views i)) (names f.bidder.known s) (f.bidder.curve, f.words) keep))

  bids-at : (i : ℕ) → i < length farmers → Bids grid views i (farmer i).bidder.curve
  bids-at i lt = record {
    is_curve = is-curve i lt;
    of_grid = of-grid i lt;
    shares = subst (AreShares (quantities (farmer i).bidder.curve)) (sym (points-of i lt))
        (seen-shares grid (farmer i) (of-grid i lt) (enough i lt));
    known = keeps i lt;
  }

  has-words : (s : Point) → HasEnough (counts_of grid) (words_in (member views s))
  has-words One = can.servers.one
  has-words Two = can.servers.two
  has-words Three = can.servers.three

  same-sum : (s : Point) (k : ℕ) → k < 2 * grid.prices →
      sum_by (λ points. slice_index (member points s) k) (all_points views) ≡ sum_by (λ f. point_for f s k) farmers
  same-sum s k lt =
      ap (λ n. sum_by (λ points. slice_index (member points s) k) (each (points_of_bidder views) n)) count
      ∙ sum-each (λ (points : Trio (List ℕ)). slice_index (member points s) k) (points_of_bidder views)
      (λ (f : BidderWithWords). point_for f s k) farmer (length farmers)
      (λ i within.
      ap (λ points. slice_index (member points s) k) (points-of i within)
      ∙ ap (λ (l : List ℕ). slice_index l k) (member-trio (λ s. each (point_for (farmer i) s) (2 * grid.prices)) s)
      ∙ item-each (point_for (farmer i) s) (2 * grid.prices) k lt)
      ∙ ap (sum_by (λ f. point_for f s k)) (sym (list-each farmers nobody))

  same-inputs-at : (s : Point) → supply_first grid.prices (each (sum_at (all_points views) s) (2 * grid.prices))
      ≡ supply_first grid.prices (each (summed_point farmers s) (2 * grid.prices))
  same-inputs-at s =
      ap (supply_first grid.prices)
      (each-same (sum_at (all_points views) s) (summed_point farmers s) (2 * grid.prices) (λ k lt. ap (λ m. m % p) (same-sum s k lt)))

  same-inputs : inputs_at grid.prices (all_points views) ≡ book_inputs grid.prices farmers
  same-inputs = λ j. record { one = same-inputs-at One j; two = same-inputs-at Two j; three = same-inputs-at Three j }

  same-run : run_of grid views ≡ book_setup grid farmers words.masks words.coefficients
  same-run = ap (λ (x : Trio (List ℕ)). auction_setup grid x words.masks words.coefficients) same-inputs

  -- so they are of one run
  pub one-run : OneRun grid views
  one-run = record {
    servers = λ s. ap (λ (view : Viewed). view.server) (member-trio (view_for book words) s);
    grids = λ s. ap (λ (view : Viewed). view.grid) (member-trio (view_for book words) s);
    marks = same-marks;
    curves = λ i. (farmer i).bidder.curve;
    bids = λ i lt. bids-at i (omega (arith, count, lt));
    tapes = has-words;
    rounds = λ s.
        ap (λ (view : Viewed). view.rounds) (member-trio (view_for book words) s)
        ∙ ap (λ (x : Setup). rounds_seen x s (rounds_among x (most_rounds (auction_over grid)))) (sym same-run);
  }

  same-bidder : (i : ℕ) → i < length farmers → recombined_bidder grid views i ≡ (farmer i).bidder
  same-bidder i lt =
      let bid = bids-at i lt in
      let curve = recombines grid (points_of_bidder views i) (farmer i).bidder.curve bid.is_curve bid.of_grid bid.shares in
      λ j. record { known = (seen-by One i lt j).known; curve = sym curve j }

  -- and their points recombine to the book
  pub same-book : recombined_book grid views ≡ book
  same-book =
      let bidder = λ (f : BidderWithWords). f.bidder in
      let bidders : each (recombined_bidder grid views) (length views.one.bidders) ≡ book.bidders =
      ap (each (recombined_bidder grid views)) count
      ∙ each-same (recombined_bidder grid views) (λ i. (farmer i).bidder) (length farmers) same-bidder
      ∙ sym (map-each bidder farmer (length farmers))
      ∙ ap (map bidder) (sym (list-each farmers nobody))
      ∙ sym (farmers-bidders book.bidders words.bidders can.lists) in
      ap (λ (l : List Bidder). record { grid = grid; bidders = l }) bidders
