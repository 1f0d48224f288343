-- Bidders as parties that deal: with mapped words the server has the same sums.
use Rattle.std.proofs.Common.{◌≡◌, ℕ, suc, ◌+◌, ◌*◌, ◌%◌, ◌<◌, List, [], ◌∷◌, map, length}
use Rattle.std.proofs.Common.{refl, sym, ap, ◌∙◌, arith}
use Rattle.std.specs.Prelude.{All, sum_by}
use Rattle.std.proofs.lemmas.List.{length-map}
use Rattle.std.proofs.lemmas.List.Elements.{All-head, All-map, All-tail}
use Rattle.std.proofs.lemmas.List.Sums.{sum_by-cons}
use Rattle.beet_field.specs.Field.{p}
use Rattle.beet_field.specs.Trio.{member}
use Rattle.beet_field.specs.declared.point.Point.{Point}
use Rattle.beet_words.specs.Words.{IsWord}
use Rattle.beet_gates.specs.Each.{each}
use Rattle.beet_gates.proofs.EachFacts.{each-same}
use Rattle.beet_bids.specs.Books.{Book, IsBook}
use Rattle.beet_bids.specs.Curves.{IsCurve}
use Rattle.beet_bids.specs.declared.book.Bidder.{Bidder}
use Rattle.beet_book.specs.Dealing.{quantities}
use Rattle.beet_book.specs.Farmers.{BidderWithWords, book_inputs, farmers_of, point_for, summed_point}
use Rattle.beet_book.specs.Totals.{supply_first}
use Rattle.beet_book.proofs.Quantities.{quantities-many}
use Rattle.beet_sharing.proofs.Lined.{member-trio}
use Rattle.beet_mapped.specs.Dealers.{Party, Dealer, DealersMapped, dealers_of}
use Rattle.beet_mapped.proofs.DealerFacts.{AreElements, dealers-back, dealers-elements, dealers-only, dealers-words}
use Rattle.beet_mapped.proofs.DealerFacts.{first-mapped, point-same, rest-mapped, told-parties, words-told}
use Rattle.beet_two_books.specs.Agreement.{SameKnown}
use Rattle.beet_two_books.proofs.BidderFacts.{SameOwn, bidders-have, curve-elements, same-own}
use Rattle.beet_auction_map.specs.MappedBidders.{BiddersMapped, party_of}

-- quantities are numbers of the field
pub parties-elements : (bidders : List Bidder) → All (λ (b : Bidder). IsCurve b.curve) bidders →
    All (λ (b : Party). AreElements b.quantities) (map party_of bidders)
parties-elements bidders all =
    All-map (λ (b : Party). AreElements b.quantities) party_of bidders (λ k d lt. curve-elements _ (all k d lt))

-- mapped words are mapped back
pub bidders-back : (s : Point) (bidders others : List Bidder) (words words' : List (List ℕ)) →
    All (λ (b : Bidder). IsCurve b.curve) bidders →
    All (λ (b : Bidder). IsCurve b.curve) others → All (All IsWord) words → BiddersMapped s bidders words others words' →
    BiddersMapped s others words' bidders words
bidders-back s bidders others words words' c d all m =
    dealers-back s (dealers_of (map party_of bidders) words) (dealers_of (map party_of others) words')
    (dealers-elements (map party_of bidders) words (parties-elements bidders c))
    (dealers-elements (map party_of others) words' (parties-elements others d))
    (dealers-words (map party_of bidders) words all) m

-- and in one way
pub bidders-only : (s : Point) (bidders others : List Bidder) (words u v : List (List ℕ)) → length u ≡ length others →
    length v ≡ length others →
    BiddersMapped s bidders words others u → BiddersMapped s bidders words others v → u ≡ v
bidders-only s bidders others words u v e f a b =
    let parties = map party_of others in
    let many = length-map others party_of in
    let long : length u ≡ length parties = e ∙ sym many in
    let long' : length v ≡ length parties = f ∙ sym many in
    words-told parties u v long long'
    (dealers-only s (dealers_of (map party_of bidders) words) (dealers_of parties u) (dealers_of parties v)
    (told-parties parties u long ∙ sym (told-parties parties v long')) a b)

-- bidders that stand with their words
abbrev pub dealer_of : BidderWithWords → Dealer
dealer_of farmer = record { party = party_of farmer.bidder; words = farmer.words }

pub farmers-dealers : (bidders : List Bidder) (words : List (List ℕ)) →
    dealers_of (map party_of bidders) words ≡ map dealer_of (farmers_of bidders words)
farmers-dealers [] words = refl
farmers-dealers (b ∷ bs) [] = refl
farmers-dealers (b ∷ bs) (w ∷ ws) = ap (λ l. dealer_of (record { bidder = b; words = w }) ∷ l) (farmers-dealers bs ws)

pub farmers-mapped : (s : Point) (bidders others : List Bidder) (words words' : List (List ℕ)) →
    BiddersMapped s bidders words others words' →
    DealersMapped s (map dealer_of (farmers_of bidders words)) (map dealer_of (farmers_of others words'))
farmers-mapped s bidders others words words' m = rw (farmers-dealers bidders words, farmers-dealers others words') at m

-- what the server adds up
points-summed : (s : Point) (farmers farmers' : List BidderWithWords) (n : ℕ) →
    All (λ (f : BidderWithWords). n < length (quantities f.bidder.curve)) farmers' →
    All (λ (f : BidderWithWords). IsCurve f.bidder.curve) farmers' → SameOwn s farmers farmers' →
    DealersMapped s (map dealer_of farmers) (map dealer_of farmers') →
    sum_by (λ farmer. point_for farmer s n) farmers' ≡ sum_by (λ farmer. point_for farmer s n) farmers
points-summed s [] [] n h c own m = refl
points-summed s [] (g ∷ gs) n h c own m = absurd (omega (arith, m.count))
points-summed s (f ∷ fs) [] n h c own m = absurd (omega (arith, m.count))
points-summed s (f ∷ fs) (g ∷ gs) n h c own m =
    let curve = λ (f : BidderWithWords). IsCurve f.bidder.curve in
    let long = λ (f : BidderWithWords). n < length (quantities f.bidder.curve) in
    let d = first-mapped s (dealer_of f) (dealer_of g) (map dealer_of fs) (map dealer_of gs) m in
    let lt : n < length (quantities g.bidder.curve) = All-head long g gs h in
    let one = point-same s (dealer_of f) (dealer_of g) (curve-elements g.bidder.curve (All-head curve g gs c))
    (λ known. ap quantities (own 0 f g refl refl known)) d n (omega (arith, lt, d.count)) in
    let rest = points-summed s fs gs n (All-tail long g gs h) (All-tail curve g gs c) (λ k x y e d. own (suc k) x y e d)
    (rest-mapped s (dealer_of f) (dealer_of g) (map dealer_of fs) (map dealer_of gs) m) in
    sum_by-cons (λ farmer. point_for farmer s n) g gs ∙ (λ j. one j + rest j) ∙ sym (sum_by-cons (λ farmer. point_for farmer s n) f fs)

pub inputs-same : (s : Point) (first second : Book) (words words' : List (List ℕ)) → IsBook second → SameKnown s first second →
    BiddersMapped s first.bidders words second.bidders words' →
    member (book_inputs second.grid.prices (farmers_of second.bidders words')) s
    ≡ member (book_inputs second.grid.prices (farmers_of first.bidders words)) s
inputs-same s first second words words' b own m =
    let prices = second.grid.prices in
    let farmers = farmers_of first.bidders words in
    let farmers' = farmers_of second.bidders words' in
    let long : (n : ℕ) → n < 2 * prices → All (λ (f : BidderWithWords). n < length (quantities f.bidder.curve)) farmers' = λ n lt.
    bidders-have (λ (b : Bidder). n < length (quantities b.curve)) second.bidders words'
    (λ k d within. let many = quantities-many second.grid _ (b.of_grid k d within) in omega (arith, lt, many)) in
    let each_point : each (summed_point farmers' s) (2 * prices) ≡ each (summed_point farmers s) (2 * prices) =
    each-same (summed_point farmers' s) (summed_point farmers s) (2 * prices)
    (λ n lt. ap (λ x. x % p) (points-summed s farmers farmers' n (long n lt)
    (bidders-have (λ (b : Bidder). IsCurve b.curve) second.bidders words' b.curves) (same-own s first second words words' own)
    (farmers-mapped s first.bidders second.bidders words words' m))) in
    member-trio (λ i. supply_first prices (each (summed_point farmers' i) (2 * prices))) s ∙ ap (supply_first prices) each_point
    ∙ sym (member-trio (λ i. supply_first prices (each (summed_point farmers i) (2 * prices))) s)
