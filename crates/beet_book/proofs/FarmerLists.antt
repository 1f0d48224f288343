-- Bidders with their words, as one list and as two.
use Rattle.std.proofs.Common.{◌≡◌, ℕ, List, [], ◌∷◌, ◌++◌, map, length, arith, refl, ap, sym}
use Rattle.beet_bids.specs.Books.{Book}
use Rattle.beet_bids.specs.declared.book.Bidder.{Bidder}
use Rattle.beet_book.specs.Farmers.{BidderWithWords, book_with, farmers_of}

-- one bidder more
pub farmers-push : (bidders : List Bidder) (words : List (List ℕ)) (bidder : Bidder) (list : List ℕ) → length words ≡ length bidders →
    farmers_of (bidders ++ bidder ∷ []) (words ++ list ∷ []) ≡ farmers_of bidders words ++ record { bidder = bidder; words = list } ∷ []
farmers-push [] [] bidder list e = refl
farmers-push [] (w ∷ ws) bidder list e = absurd (omega arith)
farmers-push (b ∷ bs) [] bidder list e = absurd (omega arith)
farmers-push (b ∷ bs) (w ∷ ws) bidder list e =
    let few : length ws ≡ length bs = omega arith in
    ap (λ (fs : List BidderWithWords). record { bidder = b; words = w } ∷ fs) (farmers-push bs ws bidder list few)

-- the bidders of such a list
pub farmers-bidders : (bidders : List Bidder) (words : List (List ℕ)) → length words ≡ length bidders →
    bidders ≡ map (λ (farmer : BidderWithWords). farmer.bidder) (farmers_of bidders words)
farmers-bidders [] words e = refl
farmers-bidders (b ∷ bs) [] e = absurd (omega arith)
farmers-bidders (b ∷ bs) (w ∷ ws) e =
    let few : length ws ≡ length bs = omega arith in ap (λ (l : List Bidder). b ∷ l) (farmers-bidders bs ws few)

-- and their book
pub book-whole : (book : Book) (words : List (List ℕ)) → length words ≡ length book.bidders →
    book_with book.grid (farmers_of book.bidders words) ≡ book
book-whole book words e = ap (λ (bidders : List Bidder). record { grid = book.grid; bidders = bidders })
    (sym (farmers-bidders book.bidders words e))

-- and their words
pub farmers-words : (bidders : List Bidder) (words : List (List ℕ)) → length words ≡ length bidders →
    words ≡ map (λ (farmer : BidderWithWords). farmer.words) (farmers_of bidders words)
farmers-words [] [] e = refl
farmers-words [] (w ∷ ws) e = absurd (omega arith)
farmers-words (b ∷ bs) [] e = absurd (omega arith)
farmers-words (b ∷ bs) (w ∷ ws) e =
    let few : length ws ≡ length bs = omega arith in ap (λ (l : List (List ℕ)). w ∷ l) (farmers-words bs ws few)

-- the lists with one item more are those of one bidder more
pub farmers-pushed : (bidders : List Bidder) (words : List (List ℕ)) (bidder : Bidder) (list : List ℕ)
    (more : List Bidder) (more' : List (List ℕ))
    (before : List BidderWithWords) → length words ≡ length bidders → farmers_of bidders words ≡ before →
    more ≡ bidders ++ bidder ∷ [] → more' ≡ words ++ list ∷ [] →
    farmers_of more more' ≡ before ++ record { bidder = bidder; words = list } ∷ []
farmers-pushed bidders words bidder list more more' before e is m m' = rw (m, m', ← is) (farmers-push bidders words bidder list e)
