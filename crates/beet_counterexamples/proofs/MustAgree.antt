-- Auctions of which a server sees the same are of books that agree for it.
use Rattle.std.proofs.Common.{◌≡◌, ℕ, zero, suc, inl, inr, List, [], ◌∷◌, map, take, length, slice_get, Option}
use Rattle.std.proofs.Common.{Some, Bool, true, false, refl, sym, ap, subst, ◌∙◌, arith}
use Rattle.std.proofs.lemmas.Bool.{cases_Bool}
use Rattle.std.proofs.lemmas.List.{length-map}
use Rattle.std.proofs.lemmas.Option.{same_Some}
use Rattle.beet_field.specs.declared.point.Point.{Point}
use Rattle.beet_words.specs.Bundles.{Words}
use Rattle.beet_bids.specs.Books.{Book, IsBook}
use Rattle.beet_bids.specs.Curves.{Curve}
use Rattle.beet_bids.specs.Grids.{Grid}
use Rattle.beet_bids.specs.Outcomes.{outcome_of}
use Rattle.beet_bids.specs.declared.book.Bidder.{Bidder}
use Rattle.beet_book.specs.Farmers.{BidderWithWords, farmers_of}
use Rattle.beet_plan.specs.Kept.{words_kept}
use Rattle.beet_delivery.proofs.ThreeServers.{same_self}
use Rattle.beet_view.specs.BookViews.{kept_if, names, seen_at}
use Rattle.beet_view.specs.Transcripts.{view_bytes, view_in}
use Rattle.beet_view.specs.Views.{Viewed}
use Rattle.beet_view.specs.declared.view.Seen.{Seen}
use Rattle.beet_view.proofs.ViewAgain.{view_in-view}
use Rattle.beet_two_books.specs.Agreement.{Agree}
use Rattle.beet_auction_map.specs.ViewsWith.{transcript_with, view_with}
use Rattle.beet_map.proofs.Disagreeing.{get-map}
use Rattle.beet_headline.specs.Statements.{CanRun, are_spent}
use Rattle.beet_headline.proofs.Sealed.{same-read}
use Rattle.beet_headline.proofs.Telling.{equal-ends}
use Rattle.beet_counterexamples.specs.Transcribed.{CanStand}
use Rattle.beet_counterexamples.proofs.Finishes.{are-spent, never-spent, one-outcome, unspent}

-- the bidders, as they are seen
marks-seen : (grid : Grid) (s : Point) (bidders : List Bidder) (words : List (List ℕ)) → length words ≡ length bidders →
    map (λ (seen : Seen). seen.known) (map (seen_at grid s) (farmers_of bidders words)) ≡ map (λ (b : Bidder). b.known) bidders
marks-seen grid s [] [] e = refl
marks-seen grid s [] (w ∷ ws) e = absurd (omega arith)
marks-seen grid s (b ∷ bs) [] e = absurd (omega arith)
marks-seen grid s (b ∷ bs) (w ∷ ws) e =
    let few : length ws ≡ length bs = omega arith in ap (λ (l : List (Option Point)). b.known ∷ l) (marks-seen grid s bs ws few)

abbrev pub farmer : Bidder → List ℕ → BidderWithWords
farmer bidder words = record { bidder = bidder; words = words }

pub farmer-at : (bidders : List Bidder) (words : List (List ℕ)) (k : ℕ) (b : Bidder) → length words ≡ length bidders →
    slice_get bidders k ≡ Some b →
    (list : List ℕ) × (slice_get (farmers_of bidders words) k ≡ Some (farmer b list))
farmer-at [] words k b e at = cc at
farmer-at (c ∷ cs) [] k b e at = absurd (omega arith)
farmer-at (c ∷ cs) (w ∷ ws) zero b e at = (w, ap (λ (x : Bidder). Some (farmer x w)) (same_Some c b at))
farmer-at (c ∷ cs) (w ∷ ws) (suc k) b e at = let few : length ws ≡ length cs = omega arith in farmer-at cs ws k b few at

own-curve : (s : Point) (known : Option Point) (one other : Curve) (list list' : List ℕ) → known ≡ Some s →
    kept_if (names known s) other list' ≡ kept_if (names known s) one list → other ≡ one
own-curve s known one other list list' e same =
    let own : names known s ≡ true = ap (λ k. names k s) e ∙ same_self s in
    let both : kept_if true other list' ≡ kept_if true one list =
    subst (λ (b : Bool). kept_if b other list' ≡ kept_if b one list) own same in
    ap (λ (q : Curve × List ℕ). q.0) (same_Some (other, list') (one, list) both)

-- the curves of the server's own bidders
seen-own : (grid grid' : Grid) (s : Point) (bidders others : List Bidder) (words words' : List (List ℕ)) →
    length words ≡ length bidders → length words' ≡ length others →
    map (seen_at grid' s) (farmers_of others words') ≡ map (seen_at grid s) (farmers_of bidders words) →
    (k : ℕ) (one other : Bidder) → slice_get bidders k ≡ Some one → slice_get others k ≡ Some other →
    one.known ≡ Some s → other.curve ≡ one.curve
seen-own grid grid' s bidders others words words' e e' same k one other at at' known =
    let here = farmer-at bidders words k one e at in
    let there = farmer-at others words' k other e' at' in
    let seen : Seen = seen_at grid s (farmer one here.0) in
    let seen' : Seen = seen_at grid' s (farmer other there.0) in
    let alike : seen' ≡ seen =
    same_Some seen' seen
    (sym (get-map (seen_at grid' s) (farmers_of others words') k (farmer other there.0) there.1) ∙ ap (λ l. slice_get l k) same
    ∙ get-map (seen_at grid s) (farmers_of bidders words) k (farmer one here.0) here.1) in
    let mark : other.known ≡ one.known = ap (λ (x : Seen). x.known) alike in
    own-curve s one.known one.curve other.curve here.0 there.0 known
    (ap (λ m. kept_if (names m s) other.curve there.0) (sym mark) ∙ ap (λ (x : Seen). x.own) alike)

outcomes-same : (s : Point) (one other : Book) (words words' : Words) → IsBook one → IsBook other → CanRun one words → CanRun other words' →
    other.grid ≡ one.grid → view_with other words' s ≡ view_with one words s → are_spent one words ≡ false →
    outcome_of other ≡ outcome_of one
outcomes-same s one other words words' b b' a a' grids views few =
    let same = equal-ends s one other words words' b b' a a' views in
    elim (cases_Bool (are_spent other words')) [
      | inl many ↦ absurd (never-spent (outcome_of one) (sym (unspent one words few) ∙ sym same ∙ are-spent other words' many))
      | inr few' ↦ one-outcome one other grids (sym (unspent other words' few') ∙ same ∙ unspent one words few)
    ]

pub must-agree : (s : Point) (one other : Book) (words words' : Words) → IsBook one → IsBook other → CanRun one words →
    CanRun other words' →
    are_spent one words ≡ false → view_with other words' s ≡ view_with one words s → Agree s one other
must-agree s one other words words' b b' a a' few views =
    let grids : other.grid ≡ one.grid = ap (λ (v : Viewed). v.grid) views in
    let kept : Book → Words → List (List ℕ) = λ book words. map (take (words_kept book.grid.prices)) words.bidders in
    let count : length (kept one words) ≡ length one.bidders =
    length-map words.bidders (take (words_kept one.grid.prices)) ∙ a.enough.count in
    let count' : length (kept other words') ≡ length other.bidders =
    length-map words'.bidders (take (words_kept other.grid.prices)) ∙ a'.enough.count in
    let seen = ap (λ (v : Viewed). v.bidders) views in
    record {
      grids = grids;
      marks = sym (marks-seen other.grid s other.bidders (kept other words') count') ∙ ap (map (λ (x : Seen). x.known)) seen
          ∙ marks-seen one.grid s one.bidders (kept one words) count;
      own = seen-own one.grid other.grid s one.bidders other.bidders (kept one words) (kept other words') count count' seen;
      outcomes = outcomes-same s one other words words' b b' a a' grids views few;
    }

-- views within the limits of a transcript are told by its bytes
one-view : (view other : Viewed) → CanStand view → CanStand other → view_bytes other ≡ view_bytes view → other ≡ view
one-view view other c c' e =
    same-read other view (view_in (view_bytes other)) (view_in-view other c'.is_view c'.fits c'.numbers)
    (ap view_in e ∙ view_in-view view c.is_view c.fits c.numbers)

pub bytes-agree : (s : Point) (one other : Book) (words words' : Words) → IsBook one → IsBook other → CanRun one words →
    CanRun other words' →
    are_spent one words ≡ false → CanStand (view_with one words s) → CanStand (view_with other words' s) →
    transcript_with other words' s ≡ transcript_with one words s → Agree s one other
bytes-agree s one other words words' b b' a a' few c c' e =
    must-agree s one other words words' b b' a a' few (one-view (view_with one words s) (view_with other words' s) c c' e)
