-- What two servers have tells every bid.
use Rattle.std.proofs.Common.{◌≡◌, ◌≢◌, ◌<◌, ◌*◌, ℕ, List, length, map, take, slice_index, refl, sym}
use Rattle.std.proofs.Common.{ap, subst, ◌∙◌, arith}
use Rattle.std.proofs.lemmas.List.{length-map}
use Rattle.beet_field.specs.Field.{IsElement}
use Rattle.beet_field.specs.declared.point.Point.{Point}
use Rattle.beet_field.specs.declared.point.Point.TheVariants.{One, Two, Three}
use Rattle.beet_shamir.specs.Line.{point_of}
use Rattle.beet_words.specs.Bundles.{Words}
use Rattle.beet_words.specs.Words.{accepted}
use Rattle.beet_gates.proofs.EachFacts.{item-each}
use Rattle.beet_bids.specs.Books.{Book, IsBook}
use Rattle.beet_bids.specs.Curves.{Curve, quantity}
use Rattle.beet_bids.specs.Grids.{Grid}
use Rattle.beet_bids.specs.declared.book.Bidder.{Bidder}
use Rattle.beet_book.specs.Farmers.{BidderWithWords, farmers_of, point_for, slope_for}
use Rattle.beet_plan.specs.Kept.{words_kept}
use Rattle.beet_view.specs.BookViews.{seen_at}
use Rattle.beet_view.specs.Views.{Viewed}
use Rattle.beet_view.specs.declared.view.Seen.{Seen}
use Rattle.beet_auction_map.specs.ViewsWith.{view_with}
use Rattle.beet_farmer.specs.Sealing.{envelope_for}
use Rattle.beet_headline.specs.Envelopes.{AreTwoBids, CanSeal}
use Rattle.beet_headline.specs.Statements.{CanRun}
use Rattle.beet_headline.proofs.Sealed.{points-told}
use Rattle.beet_headline.proofs.Telling.{over}
use Rattle.beet_headline.proofs.Told.{alike-each, as-many, books-told, curves-told}
use Rattle.beet_two_books.proofs.BidderFacts.{quantity-element}

-- two points of a line tell its value
pub one-value : (s t : Point) (v w a b : ℕ) → s ≢ t → IsElement v → IsElement w → point_of w b s ≡ point_of v a s →
    point_of w b t ≡ point_of v a t → w ≡ v
one-value One One v w a b ne h l e f = absurd (ne refl)
one-value One Two v w a b ne h l e f = omega (arith, h, l, e, f)
one-value One Three v w a b ne h l e f = omega (arith, h, l, e, f)
one-value Two One v w a b ne h l e f = omega (arith, h, l, e, f)
one-value Two Two v w a b ne h l e f = absurd (ne refl)
one-value Two Three v w a b ne h l e f = omega (arith, h, l, e, f)
one-value Three One v w a b ne h l e f = omega (arith, h, l, e, f)
one-value Three Two v w a b ne h l e f = omega (arith, h, l, e, f)
one-value Three Three v w a b ne h l e f = absurd (ne refl)

-- two envelopes tell the bid
pub envelopes-tell : (grid : Grid) (s t : Point) (one other : Curve) (words words' : List ℕ) → s ≢ t →
    AreTwoBids grid one other →
    CanSeal grid words → CanSeal grid words' → envelope_for grid other words' s ≡ envelope_for grid one words s →
    envelope_for grid other words' t ≡ envelope_for grid one words t → other ≡ one
envelopes-tell grid s t one other words words' ne two can can' e f =
    curves-told grid one other two.one_of_grid two.other_of_grid
    (λ n lt.
    one-value s t (quantity one n) (quantity other n) (slice_index (accepted words) n)
    (slice_index (accepted words') n) ne
    (quantity-element one two.one_curve n) (quantity-element other two.other_curve n)
    (points-told grid s one other words words' two can can' e n lt)
    (points-told grid t one other words words' two can can' f n lt))

-- what two servers see of the bidders tells the book
module _ (grid : Grid) (s t : Point) (ne : s ≢ t) where
  point-seen : (i : Point) (f g : BidderWithWords) → seen_at grid i g ≡ seen_at grid i f → (n : ℕ) → n < 2 * grid.prices →
      point_for g i n ≡ point_for f i n
  point-seen i f g e n lt =
      sym (item-each (point_for g i) (2 * grid.prices) n lt) ∙ ap (λ (x : Seen). slice_index x.points n) e
      ∙ item-each (point_for f i) (2 * grid.prices) n lt

  books-over : (bidders others : List Bidder) (words words' : Words) → IsBook (over grid bidders) →
      IsBook (over grid others) →
      length words.bidders ≡ length bidders → length words'.bidders ≡ length others →
      view_with (over grid others) words' s ≡ view_with (over grid bidders) words s →
      view_with (over grid others) words' t ≡ view_with (over grid bidders) words t →
      over grid others ≡ over grid bidders
  books-over bidders others words words' b b' n n' e e' =
      let cut = take {A = ℕ} (words_kept grid.prices) in
      let kept = map cut words.bidders in
      let kept' = map cut words'.bidders in
      let fs = farmers_of bidders kept in
      let gs = farmers_of others kept' in
      let m : length kept ≡ length bidders = length-map words.bidders cut ∙ n in
      let m' : length kept' ≡ length others = length-map words'.bidders cut ∙ n' in
      let one : map (seen_at grid s) gs ≡ map (seen_at grid s) fs = ap (λ (v : Viewed). v.bidders) e in
      let two : map (seen_at grid t) gs ≡ map (seen_at grid t) fs = ap (λ (v : Viewed). v.bidders) e' in
      books-told grid bidders others kept kept' b b' m m' (as-many grid bidders others kept kept' b b' m m' (seen_at grid s) one)
      (λ k f g at at' c d.
      let here = alike-each (seen_at grid s) fs gs one k f g at at' in
      let there = alike-each (seen_at grid t) fs gs two k f g at at' in (
        ap (λ (x : Seen). x.known) here,
        λ n lt.
            one-value s t (quantity f.bidder.curve n) (quantity g.bidder.curve n) (slope_for f n) (slope_for g n) ne
            (quantity-element f.bidder.curve c n) (quantity-element g.bidder.curve d n)
            (point-seen s f g here n lt) (point-seen t f g there n lt),
      ))

pub views-tell : (s t : Point) (first second : Book) (words words' : Words) → s ≢ t → IsBook first → IsBook second →
    CanRun first words →
    CanRun second words' → view_with second words' s ≡ view_with first words s →
    view_with second words' t ≡ view_with first words t → second ≡ first
views-tell s t first second words words' ne b b' r r' e e' =
    let grids : second.grid ≡ first.grid = ap (λ (v : Viewed). v.grid) e in
    subst
    (λ g. IsBook (over g second.bidders) → view_with (over g second.bidders) words' s ≡ view_with first words s →
    view_with (over g second.bidders) words' t ≡ view_with first words t → over g second.bidders ≡ first)
    (sym grids)
    (λ is one two. books-over first.grid s t ne first.bidders second.bidders words words' b is r.enough.count
    r'.enough.count one two)
    b' e e'
