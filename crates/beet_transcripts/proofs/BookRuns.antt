-- The auction of a book that is kept whole: what its servers begin with, how it ends, and what each of them sees.
use Rattle.std.proofs.Common.{◌≡◌, ◌<◌, ℕ, ◌*◌, List, map, length, All, arith, refl, sym, ap, ◌∙◌, subst, Some}
use Rattle.std.proofs.Common.{Option, inl, inr, None, get_or, ◌≢◌}
use Rattle.std.specs.Prelude.{MatchOption}
use Rattle.std.proofs.lemmas.Bool.{cases_Bool}
use Rattle.std.proofs.lemmas.List.{length-map, get_or-map, take_all}
use Rattle.std.proofs.lemmas.List.Elements.{All-map}
use Rattle.beet_field.specs.Trio.{member}
use Rattle.beet_field.specs.declared.point.Point.{Point}
use Rattle.beet_field.specs.declared.point.Point.TheVariants.{One, Two, Three}
use Rattle.beet_field.specs.declared.trio.Trio.{Trio}
use Rattle.beet_words.specs.Bundles.{Words}
use Rattle.beet_gates.proofs.EachFacts.{length-each}
use Rattle.beet_bids.specs.Books.{Book, IsBook}
use Rattle.beet_bids.specs.Curves.{Curve, IsOfGrid}
use Rattle.beet_bids.specs.Grids.{Grid}
use Rattle.beet_bids.specs.declared.book.Bidder.{Bidder}
use Rattle.beet_plan.specs.Auction.{auction_over}
use Rattle.beet_masking.specs.Masks.{AreMasks}
use Rattle.beet_bids.proofs.BookSums.{length-sums}
use Rattle.beet_delivery.proofs.ThreeServers.{not_same, same_is}
use Rattle.beet_delivery.specs.Events.{same}
use Rattle.beet_sharing.specs.Runs.{Setup}
use Rattle.beet_auction.specs.Endings.{AuctionEnds, book_finish, book_rounds}
use Rattle.beet_book.specs.Farmers.{BidderWithWords, book_inputs, book_with, farmers_of, point_for}
use Rattle.beet_auction.specs.Setups.{setup_for}
use Rattle.beet_auction.proofs.BookLines.{book-lines, slopes_of}
use Rattle.beet_auction.proofs.Ends.{book-ends}
use Rattle.beet_load.specs.Counts.{counts_of}
use Rattle.beet_load.specs.Servers.{ServerWords, AreCut, HaveEnough, coefficients_of, masks_of, cut_servers}
use Rattle.beet_load.specs.Wholes.{CanStart, by_server}
use Rattle.beet_book.proofs.FarmerLists.{book-whole}
use Rattle.beet_run.specs.Runs.{EndsAuction, setup_with}
use Rattle.beet_view.specs.BookViews.{kept_if, names, seen_at, view_for, view_of_book}
use Rattle.beet_view.specs.Views.{IsSeenAt}
use Rattle.beet_view.specs.declared.view.Seen.{Seen}
use Rattle.beet_transcripts.specs.RunsOn.{view_on}

-- words that are cut already are those of the tapes
cut-same : (grid : Grid) (words : Words) → AreCut (counts_of grid) (by_server words) → cut_servers
    (counts_of grid) words ≡ by_server words
cut-same grid words h = λ i. record {
  one = record { masks = take_all _ words.masks.one h.one.masks i; coefficients = take_all _ words.coefficients.one h.one.coefficients i };
  two = record { masks = take_all _ words.masks.two h.two.masks i; coefficients = take_all _ words.coefficients.two h.two.coefficients i };
  three = record {
    masks = take_all _ words.masks.three h.three.masks i;
    coefficients = take_all _ words.coefficients.three h.three.coefficients i;
  };
}

own-seen : (grid : Grid) (s : Point) (known : Option Point) (curve : Curve) (words : List ℕ) → IsOfGrid grid curve →
    MatchOption {T = Curve × List ℕ} (kept_if (names known s) curve words) (known ≢ Some s) (λ own. (known ≡ Some s) × IsOfGrid grid own.0)
own-seen grid s None curve words h = λ e. cc e
own-seen grid s (Some at) curve words h = elim (cases_Bool (same at s)) [
  | inl is_known ↦ rw is_known (ap Some (same_is at s is_known), h)
  | inr is_other ↦ rw is_other (λ e. let is : at ≡ s = cc in not_same at s is_other is)
]

-- a bidder is seen with a curve where the server knows it
seen-farmer : (grid : Grid) (s : Point) (farmer : BidderWithWords) → IsOfGrid grid farmer.bidder.curve →
    IsSeenAt s grid (seen_at grid s farmer)
seen-farmer grid s farmer of_grid = record {
  points = length-each (point_for farmer s) (2 * grid.prices);
  own = own-seen grid s farmer.bidder.known farmer.bidder.curve farmer.words of_grid;
}

-- on the points of a book, the view of a run is that of the book's auction
pub view-of-book : (grid : Grid) (farmers : List BidderWithWords) (words : Trio ServerWords) (s : Point) →
    view_on grid (book_inputs grid.prices farmers) words (map (seen_at grid s) farmers) s
    ≡ view_of_book grid farmers (masks_of words) (coefficients_of words) s
view-of-book grid farmers words One = refl
view-of-book grid farmers words Two = refl
view-of-book grid farmers words Three = refl

module _ (book : Book) (words : Words) (b : IsBook book) (can : CanStart book words) where
  abbrev farmers : List BidderWithWords
  farmers = farmers_of book.bidders words.bidders

  pub is-book : IsBook (book_with book.grid farmers)
  is-book = subst IsBook (sym (book-whole book words.bidders can.lists)) b

  -- the inputs are as many as the script wants
  pub inputs-long : (inputs : Trio (List ℕ)) → inputs ≡ book_inputs book.grid.prices farmers → (i : Point) →
      length (member inputs i) ≡ 2 * book.grid.prices
  inputs-long inputs e i =
      ap (λ (x : Trio (List ℕ)). length (member x i)) e ∙ (book-lines book.grid farmers is-book).lengths i
      ∙ length-sums (book_with book.grid farmers)

  pub seen-all : (s : Point) → All (IsSeenAt s book.grid) (map (seen_at book.grid s) farmers)
  seen-all s =
      All-map (IsSeenAt s book.grid) (seen_at book.grid s) farmers
      (λ i d lt. seen-farmer book.grid s (get_or farmers i d) (each-of i d lt)) where
        each-of : (i : ℕ) (d : BidderWithWords) → i < length farmers → IsOfGrid book.grid (get_or farmers i d).bidder.curve
        each-of i d lt =
            let long = length-map farmers (λ farmer. farmer.bidder) in
            subst (λ (bidder : Bidder). IsOfGrid book.grid bidder.curve) (get_or-map (λ farmer. farmer.bidder) farmers i d d.bidder lt)
            (is-book.of_grid i d.bidder (omega (arith, long, lt)))

  -- with the grid, the points of the inputs and the tapes that the program has
  module _ (grid : Grid) (g : grid ≡ book.grid) (inputs : Trio (List ℕ)) (e : inputs ≡ book_inputs book.grid.prices farmers)
      (tapes : Trio ServerWords) (t : tapes ≡ cut_servers (counts_of grid) words) where
    tapes-are : tapes ≡ by_server words
    tapes-are = t ∙ ap (λ (x : Grid). cut_servers (counts_of x) words) g ∙ cut-same book.grid words can.cut

    -- the servers have words enough
    pub tapes-enough : HaveEnough (counts_of grid) tapes
    tapes-enough = subst (λ (x : Grid). HaveEnough (counts_of x) tapes) (sym g)
        (subst (HaveEnough (counts_of book.grid)) (sym tapes-are) can.servers)

    -- and points enough
    pub inputs-enough : (i : Point) → length (member inputs i) ≡ 2 * grid.prices
    inputs-enough i = inputs-long inputs e i ∙ ap (λ (x : Grid). 2 * x.prices) (sym g)

    -- what a server sees of them is the view of the book's auction
    pub view-for : (s : Point) (bidders : List Seen) → bidders ≡ map (seen_at book.grid s) farmers →
        view_on grid inputs tapes bidders s ≡ view_for book words s
    view-for s bidders shown =
        ap (λ (x : Grid). view_on x inputs tapes bidders s) g
        ∙ ap (λ (x : Trio (List ℕ)). view_on book.grid x tapes bidders s) e
        ∙ ap (λ (x : Trio ServerWords). view_on book.grid (book_inputs book.grid.prices farmers) x bidders s) tapes-are
        ∙ ap (λ (l : List Seen). view_on book.grid (book_inputs book.grid.prices farmers) (by_server words) l s) shown
        ∙ view-of-book book.grid farmers (by_server words) s

    same-setup : setup_with book.grid inputs tapes ≡ setup_for book words
    same-setup =
        ap (λ (x : Trio (List ℕ)). setup_with book.grid x tapes) e
        ∙ ap (setup_with book.grid (book_inputs book.grid.prices farmers)) tapes-are

    -- and the run ends with the outcome of the book
    pub ends-book : AreMasks (masks_of tapes) →
        EndsAuction grid inputs tapes (book_finish book words.masks) (book_rounds book words.masks)
    ends-book masks =
        let o = setup_for book words in
        let a = auction_over book.grid in
        let ends = book-ends (book_with book.grid farmers) o (slopes_of book.grid farmers) is-book
        (subst (λ x. AreMasks (masks_of x)) tapes-are masks) refl (book-lines book.grid farmers is-book) in
        let whole = subst (λ (x : Book). AuctionEnds a o (book_rounds x words.masks) (book_finish x words.masks))
        (book-whole book words.bidders can.lists) ends in
        subst (λ (x : Grid). EndsAuction x inputs tapes (book_finish book words.masks) (book_rounds book words.masks)) (sym g)
        (record {
          ends = subst (λ (x : Setup). AuctionEnds a x (book_rounds book words.masks) (book_finish book words.masks)) (sym same-setup)
              whole;
          masks = masks;
        })
