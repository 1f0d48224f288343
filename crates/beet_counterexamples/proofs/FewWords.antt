-- With one word too few there are no mapped words.
use Rattle.std.proofs.Common.{◌≡◌, ◌<◌, ℕ, List, [], ◌∷◌, length, slice_index, refl, ap, subst, ◌∙◌, arith}
use Rattle.std.proofs.lemmas.List.{get_or_past}
use Rattle.beet_field.specs.declared.point.Point.TheVariants.{One}
use Rattle.beet_words.specs.Bundles.{Words}
use Rattle.beet_words.specs.Words.{accepted}
use Rattle.beet_book.specs.Dealing.{quantities}
use Rattle.beet_mapped.specs.Dealers.{SlopesMoved}
use Rattle.beet_mapped.proofs.WordPlaces.{accepted-length}
use Rattle.beet_auction_map.specs.MappedBidders.{BiddersMapped, party_of}
use Rattle.beet_auction_map.specs.MappedWords.{Mapped}
use Rattle.beet_counterexamples.specs.Examples.{book_selling, seller_of}

abbrev three : List ℕ
three = 0 ∷ 0 ∷ 0 ∷ []

abbrev lists : List (List ℕ)
lists = (0 ∷ 0 ∷ 0 ∷ 0 ∷ []) ∷ three ∷ []

not-moved : (list : List ℕ) → SlopesMoved One (quantities (seller_of 5).curve)
    (quantities (seller_of 7).curve) three list → ⊥
not-moved list m =
    let few : length (accepted list) ≡ 3 = accepted-length list three m.places in
    let none : slice_index (accepted list) 3 ≡ 0 = get_or_past (accepted list) 3 0 (omega (arith, few)) in
    let fourth : 3 < 4 = omega arith in
    let is : slice_index (accepted list) 3 ≡ 2305843009213693949 = m.moves 3 fourth in
    absurd (omega (arith, none, is))

few-lists : (words' : List (List ℕ)) → length words' ≡ 2 →
    BiddersMapped One (book_selling 5).bidders lists (book_selling 7).bidders words' → ⊥
few-lists [] e m = absurd (omega (arith, e))
few-lists (x ∷ []) e m = absurd (omega (arith, e))
few-lists (x ∷ y ∷ []) e m =
    not-moved y
    ((m.each_one 1 (record { party = party_of (seller_of 5); words = three })
    (record { party = party_of (seller_of 7); words = y }) refl refl).moved
    (λ e. cc e))
few-lists (x ∷ y ∷ z ∷ r) e m = absurd (omega (arith, e))

pub none-mapped : (words words' : Words) → words.bidders ≡ lists →
    Mapped One (book_selling 5) words (book_selling 7) words' → ⊥
none-mapped words words' e m =
    few-lists words'.bidders (m.lists ∙ ap length e)
    (subst (λ l. BiddersMapped One (book_selling 5).bidders l (book_selling 7).bidders words'.bidders) e m.dealers)
