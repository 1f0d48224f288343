-- What three of five servers have tells every bid.
use Rattle.std.proofs.Common.{◌≡◌, ◌<◌, ◌*◌, ℕ, List, length, map, slice_index, sym, ap, subst, ◌∙◌}
use Rattle.beet_gates.proofs.EachFacts.{item-each}
use Rattle.beet_bids.specs.Books.{Book, IsBook}
use Rattle.beet_bids.specs.Curves.{quantity}
use Rattle.beet_bids.specs.Grids.{Grid}
use Rattle.beet_bids.specs.declared.book.Bidder.{Bidder}
use Rattle.beet_book.specs.Farmers.{BidderWithWords, farmers_of}
use Rattle.beet_view.specs.declared.view.Seen.{Seen}
use Rattle.beet_two_books.proofs.BidderFacts.{quantity-element}
use Rattle.beet_weights.specs.Quadratics.{IsServer}
use Rattle.beet_linear_sharing.specs.Schemes.{five_servers}
use Rattle.beet_coalition.specs.Moved.{hiding}
use Rattle.beet_five_dealing.specs.FiveInputs.{share_for}
use Rattle.beet_five_dealing.specs.FiveWords.{CanRun, FiveWords}
use Rattle.beet_five_auction.proofs.ThreeTell.{three-tell}
use Rattle.beet_five_view.specs.JointBooks.{seen_at, view_at}
use Rattle.beet_five_view.specs.JointViews.{FiveView}
use Rattle.beet_headline.proofs.Telling.{over}
use Rattle.beet_headline.proofs.Told.{alike-each, as-many, books-told}

module _ (i j k : ℕ) (first_is : IsServer i) (low : i < j) (high : j < k) (last_is : IsServer k) where
  -- what they see of the bidders
  module _ (prices : ℕ) where
    share-seen : (s : ℕ) (f g : BidderWithWords) → seen_at prices s g ≡ seen_at prices s f → (n : ℕ) → n < 2 * prices →
        share_for f s n ≡ share_for g s n
    share-seen s f g e n lt =
        sym (item-each (share_for f s) (2 * prices) n lt) ∙ sym (ap (λ (x : Seen). slice_index x.points n) e)
        ∙ item-each (share_for g s) (2 * prices) n lt

  books-over : (grid : Grid) (bidders others : List Bidder) (words words' : FiveWords) → IsBook (over grid bidders) →
      IsBook (over grid others) → length words.bidders ≡ length bidders → length words'.bidders ≡ length others →
      view_at (over grid others) words' i ≡ view_at (over grid bidders) words i →
      view_at (over grid others) words' j ≡ view_at (over grid bidders) words j →
      view_at (over grid others) words' k ≡ view_at (over grid bidders) words k → over grid others ≡ over grid bidders
  books-over grid bidders others words words' b b' n n' e e' e'' =
      let prices = grid.prices in
      let fs = farmers_of bidders words.bidders in
      let gs = farmers_of others words'.bidders in
      let one : map (seen_at prices i) gs ≡ map (seen_at prices i) fs = ap (λ (v : FiveView). v.bidders) e in
      let two : map (seen_at prices j) gs ≡ map (seen_at prices j) fs = ap (λ (v : FiveView). v.bidders) e' in
      let three : map (seen_at prices k) gs ≡ map (seen_at prices k) fs = ap (λ (v : FiveView). v.bidders) e'' in
      books-told grid bidders others words.bidders words'.bidders b b' n n'
      (as-many grid bidders others words.bidders words'.bidders b b' n n' (seen_at prices i) one)
      (λ l f g at at' c d.
      let here = alike-each (seen_at prices i) fs gs one l f g at at' in
      let there = alike-each (seen_at prices j) fs gs two l f g at at' in
      let yonder = alike-each (seen_at prices k) fs gs three l f g at at' in (
        ap (λ (x : Seen). x.known) here,
        λ n lt.
            sym (three-tell (quantity f.bidder.curve n) (hiding five_servers f.words n 0) (hiding five_servers f.words n 1)
            (quantity g.bidder.curve n) (hiding five_servers g.words n 0) (hiding five_servers g.words n 1)
            (quantity-element f.bidder.curve c n) (quantity-element g.bidder.curve d n) i j k first_is low high last_is
            (share-seen prices i f g here n lt) (share-seen prices j f g there n lt) (share-seen prices k f g yonder n lt)),
      ))

pub three-views-tell : (i j k : ℕ) (first second : Book) (words words' : FiveWords) → IsServer i → i < j → j < k → IsServer k →
    IsBook first → IsBook second → CanRun first words → CanRun second words' →
    view_at second words' i ≡ view_at first words i → view_at second words' j ≡ view_at first words j →
    view_at second words' k ≡ view_at first words k → second ≡ first
three-views-tell i j k first second words words' first_is low high last_is b b' can can' e e' e'' =
    let grids : second.grid ≡ first.grid = ap (λ (v : FiveView). v.grid) e in
    subst
    (λ (g : Grid). IsBook (over g second.bidders) → view_at (over g second.bidders) words' i ≡ view_at first words i →
    view_at (over g second.bidders) words' j ≡ view_at first words j →
    view_at (over g second.bidders) words' k ≡ view_at first words k → over g second.bidders ≡ first)
    (sym grids)
    (λ is one two three. books-over i j k first_is low high last_is first.grid first.bidders second.bidders words words' b is can.count
    can'.count one two three)
    b' e e' e''
