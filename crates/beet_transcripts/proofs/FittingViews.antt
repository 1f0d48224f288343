-- What a server sees of the auction of a book that can run is within the limits of a transcript.
use Rattle.std.proofs.Common.{◌≡◌, ◌≤◌, ℕ, ◌*◌, List, [], ◌∷◌, map, length, All, IfSome, Bool, true, false, Some}
use Rattle.std.proofs.Common.{None, Ok, get_or, arith, refl, sym, ap, ◌∙◌, subst}
use Rattle.std.specs.Prelude.{if◌then◌else◌}
use Rattle.std.proofs.lemmas.List.{length-map}
use Rattle.std.proofs.lemmas.List.Elements.{All-nil, All-cons, All-from_get_or, All-head, All-tail, All-map}
use Rattle.beet_field.specs.Field.{IsElement}
use Rattle.beet_field.specs.Trio.{member}
use Rattle.beet_field.specs.declared.point.Point.{Point}
use Rattle.beet_field.specs.declared.point.Point.TheVariants.{One, Two, Three}
use Rattle.beet_field.specs.declared.trio.Trio.{Trio}
use Rattle.beet_words.specs.Bundles.{Words, AreWords}
use Rattle.beet_words.specs.Words.{IsWord}
use Rattle.beet_gates.proofs.EachFacts.{all-each}
use Rattle.beet_bids.specs.Books.{Book, IsBook}
use Rattle.beet_bids.specs.Curves.{Curve, IsCurve}
use Rattle.beet_bids.specs.Grids.{Grid, IsGrid}
use Rattle.beet_bids.specs.declared.book.Bidder.{Bidder}
use Rattle.beet_book.specs.Farmers.{BidderWithWords, book_inputs, farmers_of, point_for}
use Rattle.beet_auction.proofs.BookLines.{book-lines}
use Rattle.beet_load.specs.Wholes.{CanStart, by_server}
use Rattle.beet_book.proofs.FarmerLists.{farmers-bidders}
use Rattle.beet_view.specs.BookViews.{names, seen_at, view_for}
use Rattle.beet_plan.specs.Kept.{words_kept}
use Rattle.beet_view.specs.Transcripts.{FitsFile, HasNumbers, AreNumbers, view_bytes, view_in}
use Rattle.beet_view.specs.Views.{IsView}
use Rattle.beet_view.proofs.ViewAgain.{view_in-view}
use Rattle.beet_view.proofs.ViewLength.{view_bytes-short}
use Rattle.beet_view.specs.declared.view.Seen.{Seen}
use Rattle.beet_transcripts.specs.RunsOn.{view_on}
use Rattle.beet_transcripts.proofs.BookRuns.{inputs-long, is-book, seen-all, view-of-book}
use Rattle.beet_transcripts.proofs.FittingRuns.{run-fits, run-is-view, run-numbers}
use Rattle.beet_book.specs.declared.book_file.TheConstants.{MOST_PRODUCT}
use Rattle.beet_forms.specs.declared.faults.TheConstants.{LONGEST_FILE}

-- what holds of each bidder and of each list holds of the bidders with their words
abbrev Both : (Bidder → Type 0) → (List ℕ → Type 0) → BidderWithWords → Type 0
Both P Q farmer = P farmer.bidder × Q farmer.words

farmers-all : (P : Bidder → Type 0) (Q : List ℕ → Type 0) (bidders : List Bidder) (words : List (List ℕ)) →
    All P bidders → All Q words → All (Both P Q) (farmers_of bidders words)
farmers-all P Q [] words all each = All-nil (Both P Q)
farmers-all P Q (b ∷ bs) [] all each = All-nil (Both P Q)
farmers-all P Q (b ∷ bs) (w ∷ ws) all each =
    All-cons (Both P Q) (record { bidder = b; words = w }) (farmers_of bs ws) (All-head P b bs all, All-head Q w ws each)
    (farmers-all P Q bs ws (All-tail P b bs all) (All-tail Q w ws each))

-- what holds of a curve with its words holds of them where they are kept
pub own-kept : (P : Curve × List ℕ → Type 0) (knows : Bool) (own : Curve × List ℕ) → P own → IfSome (if knows then Some own else None) P
own-kept P true own holds = holds
own-kept P false own holds = tt

-- the numbers of a bidder with a curve and with words
farmer-numbers : (grid : Grid) (s : Point) (farmer : BidderWithWords) → IsCurve farmer.bidder.curve →
    All IsWord farmer.words → HasNumbers (seen_at grid s farmer)
farmer-numbers grid s farmer curve words = record {
  points = all-each IsElement (point_for farmer s) (2 * grid.prices) (λ n within. omega arith);
  own = own-kept (λ own. IsCurve own.0 × All IsWord own.1) (names farmer.bidder.known s) (farmer.bidder.curve, farmer.words) (curve, words);
}

module _ (book : Book) (words : Words) (g : IsGrid book.grid) (b : IsBook book) (can : CanStart book words) where
  abbrev farmers : List BidderWithWords
  farmers = farmers_of book.bidders words.bidders

  abbrev inputs : Trio (List ℕ)
  inputs = book_inputs book.grid.prices farmers

  long : (i : Point) → length (member inputs i) ≡ 2 * book.grid.prices
  long = inputs-long book words b can inputs refl

  -- the points of the inputs are numbers of the field, as all points on lines are
  inputs-elements : (i : Point) → All IsElement (member inputs i)
  inputs-elements i =
      let lines = book-lines book.grid farmers (is-book book words b can) in
      All-from_get_or IsElement (member inputs i) 0 (λ k lt. subst IsElement (sym (lines.points i k)) (omega arith))

  -- the bidders as a server sees them
  abbrev seen : Point → List Seen
  seen s = map (seen_at book.grid s) farmers

  same-view : (s : Point) → view_on book.grid inputs (by_server words) (seen s) s ≡ view_for book words s
  same-view s = view-of-book book.grid farmers (by_server words) s

  few-words : (s : Point) → All (λ (seen : Seen). IfSome seen.own (λ own. length own.1 ≤ words_kept book.grid.prices)) (seen s)
  few-words s =
      let kept = farmers-all (λ bidder. IsCurve bidder.curve) (λ list. length list ≤ words_kept book.grid.prices)
      book.bidders words.bidders b.curves (λ k d lt. (can.bidders k d lt).kept) in
      All-map (λ (seen : Seen). IfSome seen.own (λ own. length own.1 ≤ words_kept book.grid.prices)) (seen_at book.grid s) farmers
      (λ k d lt. own-kept (λ own. length own.1 ≤ words_kept book.grid.prices) (names _ s) _ (kept k d lt).1)

  same-count : (s : Point) → length book.bidders ≡ length (seen s)
  same-count s =
      ap length (farmers-bidders book.bidders words.bidders can.lists) ∙ length-map farmers (λ (farmer : BidderWithWords). farmer.bidder)
      ∙ sym (length-map farmers (seen_at book.grid s))

  pub view-fits : length book.bidders * book.grid.prices ≤ MOST_PRODUCT → (s : Point) → FitsFile (view_for book words s)
  view-fits product s =
      subst FitsFile (same-view s)
      (run-fits book.grid g inputs (by_server words) long s (seen s) can.cut
      (subst (λ n. n * book.grid.prices ≤ MOST_PRODUCT) (same-count s) product) (few-words s))

  view-is : (s : Point) → IsView (view_for book words s)
  view-is s =
      subst IsView (same-view s)
      (run-is-view book.grid g inputs (by_server words) long s (seen s)
      (omega (arith, same-count s, b.few)) (seen-all book words b can s))

  pub view-short : length book.bidders * book.grid.prices ≤ MOST_PRODUCT → (s : Point) →
      length (view_bytes (view_for book words s)) ≤ LONGEST_FILE
  view-short product s = view_bytes-short (view_for book words s) g (view-is s) (view-fits product s)

  module _ (are : AreWords words) where
    numbers-seen : (s : Point) → All HasNumbers (seen s)
    numbers-seen s =
        let known = farmers-all (λ bidder. IsCurve bidder.curve)
        (λ list. All IsWord list) book.bidders words.bidders b.curves are.bidders in
        All-map HasNumbers (seen_at book.grid s) farmers
        (λ k d lt. farmer-numbers book.grid s (get_or farmers k d) (known k d lt).0 (known k d lt).1)

    masks-are : (s : Point) → All IsWord (member (by_server words) s).masks
    masks-are One = are.masks.0
    masks-are Two = are.masks.1
    masks-are Three = are.masks.2

    coefficients-are : (s : Point) → All IsWord (member (by_server words) s).coefficients
    coefficients-are One = are.coefficients.0
    coefficients-are Two = are.coefficients.1
    coefficients-are Three = are.coefficients.2

    numbers-of : (s : Point) → AreNumbers (view_for book words s)
    numbers-of s =
        subst AreNumbers (same-view s)
        (run-numbers book.grid g inputs (by_server words) long s (seen s) inputs-elements (numbers-seen s) (masks-are s)
        (coefficients-are s))

    -- so its transcript is read as the view
    pub view-again : length book.bidders * book.grid.prices ≤ MOST_PRODUCT → (s : Point) →
        view_in (view_bytes (view_for book words s)) ≡ Ok (view_for book words s)
    view-again product s = view_in-view (view_for book words s) (view-is s) (view-fits product s) (numbers-of s)
