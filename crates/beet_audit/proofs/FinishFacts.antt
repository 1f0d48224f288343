-- The run of three views ends as the auction of the curves that their points recombine to.
use Rattle.std.proofs.Common.{◌≡◌, ◌<◌, ◌≤◌, ◌*◌, ◌%◌, ℕ, zero, suc, List, [], ◌∷◌, length, slice_index, All, arith}
use Rattle.std.proofs.Common.{refl, sym, ◌∙◌, ap, subst}
use Rattle.std.specs.Prelude.{sum_by}
use Rattle.std.proofs.lemmas.List.Elements.{All-head, All-tail}
use Rattle.std.proofs.lemmas.List.Sums.{sum_by_push}
use Rattle.std.proofs.lemmas.Grind.{common_steps}
use Rattle.beet_field.specs.Field.{p, IsElement}
use Rattle.beet_field.specs.Trio.{member}
use Rattle.beet_field.specs.declared.point.Point.{Point}
use Rattle.beet_field.specs.declared.point.Point.TheVariants.{One, Two, Three}
use Rattle.beet_field.specs.declared.trio.Trio.{Trio}
use Rattle.beet_shamir.specs.Line.{point_of, points_of}
use Rattle.beet_words.specs.Words.{accepted}
use Rattle.beet_words.specs.declared.bundle.TheConstants.{MOST_BIDDERS}
use Rattle.beet_gates.specs.Each.{each}
use Rattle.beet_gates.proofs.EachFacts.{all-each, each-same, each-suc, each-zero, item-each, length-each, map-each}
use Rattle.beet_bids.specs.Books.{Book, IsBook}
use Rattle.beet_bids.specs.Curves.{IsCurve, IsOfGrid}
use Rattle.beet_bids.specs.Grids.{Grid}
use Rattle.beet_bids.specs.declared.book.Bidder.{Bidder}
use Rattle.beet_plan.specs.Auction.{auction_over}
use Rattle.beet_plan.specs.declared.Finish.{Finish}
use Rattle.beet_book.specs.Dealing.{quantities}
use Rattle.beet_book.specs.Farmers.{BidderWithWords, book_inputs, book_with, point_for, summed_point}
use Rattle.beet_book.specs.PointSums.{inputs_at, sum_at}
use Rattle.beet_book.specs.Totals.{points_on, supply_first}
use Rattle.beet_auction.specs.AnyPoints.{points_finish, points_rounds}
use Rattle.beet_auction.specs.Endings.{book_finish, book_rounds}
use Rattle.beet_auction.proofs.AddedPoints.{are-points}
use Rattle.beet_auction.proofs.BookLines.{book-lines, slopes_of}
use Rattle.beet_auction.proofs.BookPoints.{points-finish, points-rounds}
use Rattle.beet_auction.proofs.OtherPoints.{any-ends}
use Rattle.beet_load.specs.Servers.{ServerWords, masks_of}
use Rattle.beet_run.specs.Runs.{EndsAuction, setup_with}
use Rattle.beet_run.proofs.BookRuns.{one-end}
use Rattle.beet_view.specs.Views.{Viewed}
use Rattle.beet_audit.specs.Audits.{all_points, curve_of, points_of_bidder, recombined_bidder, recombined_book, value_at}
use Rattle.beet_audit.proofs.BidFacts.{OnOwnLines, of-grid, own_slope}
use Rattle.beet_audit.proofs.PointFacts.{item-quantities}

pub sum-each : {A B : Type 0} (f : A → ℕ) (g : ℕ → A) (f' : B → ℕ) (g' : ℕ → B) → (n : ℕ) → ((i : ℕ) → i < n → f (g i) ≡ f' (g' i)) →
    sum_by f (each g n) ≡ sum_by f' (each g' n)
sum-each f g f' g' zero same = rw (each-zero g, each-zero g') refl
sum-each f g f' g' (suc n) same =
    let before = sum-each f g f' g' n (λ i lt. same i (omega arith)) in
    let last = same n (omega arith) in
    rw (each-suc g n, each-suc g' n, sum_by_push f (each g n) (g n), sum_by_push f' (each g' n) (g' n), before, last) refl

-- numbers of the field are all drawn
pub all-accepted : (xs : List ℕ) → All IsElement xs → accepted xs ≡ xs
all-accepted [] h = refl
all-accepted (x ∷ xs) h =
    let less : x < p = All-head IsElement x xs h in
    let rest = all-accepted xs (All-tail IsElement x xs h) in
    grind (arith, common_steps)

point-on : (points : Trio (List ℕ)) (k v a : ℕ) (s : Point) → points_on points k ≡ points_of v a →
    slice_index (member points s) k ≡ point_of v a s
point-on points k v a One e = ap (λ (t : Trio ℕ). t.one) e
point-on points k v a Two e = ap (λ (t : Trio ℕ). t.two) e
point-on points k v a Three e = ap (λ (t : Trio ℕ). t.three) e

module _ (grid : Grid) (views : Trio Viewed) (few : length views.one.bidders ≤ MOST_BIDDERS)
    (curves : (i : ℕ) → i < length views.one.bidders → IsCurve (curve_of grid.prices (points_of_bidder views i)))
    (lines : (i : ℕ) → i < length views.one.bidders → OnOwnLines grid.prices (points_of_bidder views i)) where
  abbrev pub n : ℕ
  n = length views.one.bidders

  abbrev pub slopes : ℕ → List ℕ
  slopes i = each (own_slope (points_of_bidder views i)) (2 * grid.prices)

  abbrev pub farmer : ℕ → BidderWithWords
  farmer i = record { bidder = recombined_bidder grid views i; words = slopes i }

  abbrev pub farmers : List BidderWithWords
  farmers = each farmer n

  drawn : (i : ℕ) → accepted (slopes i) ≡ slopes i
  drawn i =
      let points = points_of_bidder views i in
      all-accepted (slopes i) (all-each IsElement (own_slope points) (2 * grid.prices) (λ k lt. below-slope points k)) where
        below-slope : (points : Trio (List ℕ)) (k : ℕ) → IsElement (own_slope points k)
        below-slope points k = omega arith

  same-point : (s : Point) (k : ℕ) → k < 2 * grid.prices → (i : ℕ) → i < n →
      slice_index (member (points_of_bidder views i) s) k ≡ point_for (farmer i) s k
  same-point s k lt i within =
      let points = points_of_bidder views i in
      let slope : slice_index (accepted (slopes i)) k ≡ own_slope points k =
      ap (λ (l : List ℕ). slice_index l k) (drawn i) ∙ item-each (own_slope points) (2 * grid.prices) k lt in
      point-on points k (value_at points k) (own_slope points k) s (lines i within k lt)
      ∙ ap (λ v. point_of v (own_slope points k) s) (sym (item-quantities grid.prices points k lt))
      ∙ ap (λ a. point_of (slice_index (quantities (curve_of grid.prices points)) k) a s) (sym slope)

  same-inputs-at : (s : Point) → supply_first grid.prices (each (sum_at (all_points views) s) (2 * grid.prices))
      ≡ supply_first grid.prices (each (summed_point farmers s) (2 * grid.prices))
  same-inputs-at s =
      ap (supply_first grid.prices)
      (each-same (sum_at (all_points views) s) (summed_point farmers s) (2 * grid.prices)
      (λ k lt. ap (λ m. m % p)
      (sum-each (λ (points : Trio (List ℕ)). slice_index (member points s) k) (points_of_bidder views)
      (λ (f : BidderWithWords). point_for f s k) farmer n (same-point s k lt))))

  pub same-inputs : inputs_at grid.prices (all_points views) ≡ book_inputs grid.prices farmers
  same-inputs = λ j. record { one = same-inputs-at One j; two = same-inputs-at Two j; three = same-inputs-at Three j }

  pub same-book : book_with grid farmers ≡ recombined_book grid views
  same-book = ap (λ (l : List Bidder). record { grid = grid; bidders = l }) (map-each (λ (f : BidderWithWords). f.bidder) farmer n)

  pub is-recombined : IsBook (recombined_book grid views)
  is-recombined = record {
    few = omega (arith, length-each (recombined_bidder grid views) n, few);
    curves = all-each (λ (b : Bidder). IsCurve b.curve) (recombined_bidder grid views) n curves;
    of_grid = all-each (λ (b : Bidder). IsOfGrid grid b.curve) (recombined_bidder grid views) n
        (λ i lt. of-grid grid.prices (points_of_bidder views i) grid refl);
  }

  -- so the run ends with the outcome of the book of these curves
  pub ends-recombined : (words : Trio ServerWords) (finish : Finish) (rounds : ℕ) →
      EndsAuction grid (inputs_at grid.prices (all_points views)) words finish rounds →
      (finish ≡ book_finish (recombined_book grid views) (masks_of words))
      × (rounds ≡ book_rounds (recombined_book grid views) (masks_of words))
  ends-recombined words finish rounds h =
      let a = auction_over grid in
      let inputs = inputs_at grid.prices (all_points views) in
      let masks = masks_of words in
      let book = book_with grid farmers in
      let is_book : IsBook book = subst IsBook (sym same-book) is-recombined in
      let end = one-end a (setup_with grid inputs words) rounds (points_rounds a inputs masks) finish (points_finish a inputs masks) h.ends
      (any-ends a (setup_with grid inputs words) (are-points grid (all_points views)) h.masks refl) in
      let lined = book-lines grid farmers is_book in
      let ss = slopes_of grid farmers in
      let dealt = book_inputs grid.prices farmers in (
        end.0 ∙ ap (λ t. points_finish a t masks) same-inputs ∙ points-finish book ss dealt masks is_book lined
            ∙ ap (λ (b : Book). book_finish b masks) same-book,
        end.1 ∙ ap (λ t. points_rounds a t masks) same-inputs ∙ points-rounds book ss dealt masks is_book lined
            ∙ ap (λ (b : Book). book_rounds b masks) same-book,
      )
