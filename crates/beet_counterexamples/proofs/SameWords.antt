-- Words that are mapped to themselves deal equal quantities.
use Rattle.std.proofs.Common.{◌≡◌, ◌<◌, ◌*◌, ℕ, zero, suc, inl, inr, List, [], ◌∷◌, map, slice_get, slice_index, Some, sym, ap, ◌∙◌, arith}
use Rattle.std.proofs.lemmas.Option.{same_Some}
use Rattle.beet_field.specs.Field.{IsElement, add_of, mul_of}
use Rattle.beet_field.specs.Point.{number_of}
use Rattle.beet_field.specs.declared.point.Point.{Point}
use Rattle.beet_shamir.specs.Line.{point_of}
use Rattle.beet_words.specs.Bundles.{Words}
use Rattle.beet_words.specs.Words.{accepted}
use Rattle.beet_bids.specs.Books.{Book, IsBook}
use Rattle.beet_bids.specs.Curves.{IsCurve, IsOfGrid, quantity}
use Rattle.beet_book.specs.Dealing.{quantities}
use Rattle.beet_bids.specs.declared.book.Bidder.{Bidder}
use Rattle.beet_book.specs.Farmers.{BidderWithWords, farmers_of}
use Rattle.beet_book.proofs.Quantities.{quantities-many}
use Rattle.beet_map.specs.Mapped.{moved_of}
use Rattle.beet_map.proofs.Moves.{moved_same}
use Rattle.beet_two_books.specs.Agreement.{Agree}
use Rattle.beet_auction_map.specs.MappedWords.{Mapped}
use Rattle.beet_map.proofs.Places.{element-at}
use Rattle.beet_mapped.proofs.DealerFacts.{known-or}
use Rattle.beet_turned.proofs.MasksBack.{all-at}
use Rattle.beet_two_books.proofs.BidderFacts.{curve-elements}
use Rattle.beet_auction_map.proofs.BidderFacts.{dealer_of, farmers-dealers}
use Rattle.beet_map.proofs.Disagreeing.{as-many, get-map}
use Rattle.beet_auction_map.specs.MappedBidders.{party_of}
use Rattle.beet_mapped.specs.Dealers.{dealers_of}
use Rattle.beet_headline.specs.Statements.{CanRun}
use Rattle.beet_counterexamples.proofs.MustAgree.{farmer, farmer-at}

pub cancelled : (x y c : ℕ) → IsElement x → IsElement y → add_of y c ≡ add_of x c → y ≡ x
cancelled x y c h l e = omega (arith, h, l, e)

-- a number that is moved to itself hid equal secrets
moved-to-itself : (s : Point) (number x y : ℕ) → IsElement x → IsElement y → number ≡ moved_of s number x y → y ≡ x
moved-to-itself s number x y h l e =
    cancelled x y (mul_of number (number_of s)) h l (ap (λ a. point_of y a s) e ∙ moved_same s number x y l)

at-dealer : (bidders : List Bidder) (words : List (List ℕ)) (k : ℕ) (f : BidderWithWords) →
    slice_get (farmers_of bidders words) k ≡ Some f →
    slice_get (dealers_of (map party_of bidders) words) k ≡ Some (dealer_of f)
at-dealer bidders words k f at =
    ap (λ l. slice_get l k) (farmers-dealers bidders words) ∙ get-map dealer_of (farmers_of bidders words) k f at

words-at : (bidders : List Bidder) (words : List (List ℕ)) (k : ℕ) (f : BidderWithWords) →
    slice_get (farmers_of bidders words) k ≡ Some f → slice_get words k ≡ Some f.words
words-at [] words k f e = cc e
words-at (b ∷ bs) [] k f e = cc e
words-at (b ∷ bs) (w ∷ ws) zero f e = ap (λ (x : BidderWithWords). Some x.words) (same_Some (farmer b w) f e)
words-at (b ∷ bs) (w ∷ ws) (suc k) f e = words-at bs ws k f e

pub same-bids : (s : Point) (first second : Book) (words : Words) (k n : ℕ) (one other : Bidder) → IsBook first →
    IsBook second → CanRun first words →
    Agree s first second → Mapped s first words second words → slice_get first.bidders k ≡ Some one →
    slice_get second.bidders k ≡ Some other →
    n < 2 * first.grid.prices → quantity other.curve n ≡ quantity one.curve n
same-bids s first second words k n one other b b' runs agree m at at' lt =
    let count = runs.enough.count in
    let here = farmer-at first.bidders words.bidders k one count at in
    let many = as-many (λ (x : Bidder). x.known) first.bidders second.bidders agree.marks in
    let there = farmer-at second.bidders words.bidders k other (count ∙ sym many) at' in
    let f : BidderWithWords = farmer one here.0 in
    let g : BidderWithWords = farmer other there.0 in
    let same : there.0 ≡ here.0 =
    same_Some there.0 here.0 (sym (words-at second.bidders words.bidders k g there.1) ∙ words-at first.bidders words.bidders k f here.1) in
    let dealt = at-dealer first.bidders words.bidders k f here.1 in
    let dealt' = at-dealer second.bidders words.bidders k g there.1 in
    let both = m.dealers.each_one k (dealer_of f) (dealer_of g) dealt dealt' in
    elim (known-or one.known s) [
      | inl known ↦ ap (λ c. quantity c n) (agree.own k one other at at' known)
      | inr unknown ↦
          let one_curve : IsCurve one.curve = all-at (λ (x : Bidder). IsCurve x.curve) first.bidders k one b.curves at in
          let other_curve : IsCurve other.curve = all-at (λ (x : Bidder). IsCurve x.curve) second.bidders k other b'.curves at' in
          moved-to-itself s (slice_index (accepted here.0) n) (quantity one.curve n) (quantity other.curve n)
          (element-at (quantities one.curve) (curve-elements one.curve one_curve) n)
          (element-at (quantities other.curve) (curve-elements other.curve other_curve) n)
          (ap (λ l. slice_index (accepted l) n) (sym same) ∙ (both.moved unknown).moves n (omega (
            arith,
            lt,
            quantities-many first.grid one.curve (all-at (λ (x : Bidder). IsOfGrid first.grid x.curve) first.bidders k one b.of_grid at),
          )))
    ]
