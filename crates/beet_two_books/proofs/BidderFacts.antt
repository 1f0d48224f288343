-- Bidders: their quantities are numbers of the field, and what is true of them is so of those that stand with their words.
use Rattle.std.proofs.Common.{◌≡◌, ◌<◌, ◌≤◌, ℕ, zero, suc, List, [], ◌∷◌, length, get_or, slice_get, slice_index, Some, sym, ap, ◌∙◌, arith}
use Rattle.std.specs.Prelude.{All}
use Rattle.std.proofs.lemmas.List.{ext_get_or}
use Rattle.std.proofs.lemmas.List.Elements.{All-append, All-cons, All-head, All-tail}
use Rattle.std.proofs.lemmas.Option.{same_Some}
use Rattle.beet_field.specs.Field.{IsElement}
use Rattle.beet_field.specs.declared.point.Point.{Point}
use Rattle.beet_map.proofs.Places.{element-at}
use Rattle.beet_bids.specs.Books.{Book}
use Rattle.beet_bids.specs.Curves.{Curve, IsCurve, quantity}
use Rattle.beet_bids.specs.declared.curve.TheConstants.{LARGEST_QUANTITY}
use Rattle.beet_bids.specs.declared.book.Bidder.{Bidder}
use Rattle.beet_book.specs.Dealing.{quantities}
use Rattle.beet_book.specs.Farmers.{BidderWithWords, farmers_of}
use Rattle.beet_two_books.specs.Agreement.{SameKnown}

-- curves by their quantities
pub curves-same : (one other : Curve) (n : ℕ) → length one.buy ≡ n → length one.sell ≡ n → length other.buy ≡ n → length other.sell ≡ n →
    ((k : ℕ) → k < n → slice_index other.buy k ≡ slice_index one.buy k) →
    ((k : ℕ) → k < n → slice_index other.sell k ≡ slice_index one.sell k) → other ≡ one
curves-same one other n a b c d buy sell =
    let e = ext_get_or 0 other.buy one.buy (c ∙ sym a) (λ k lt. buy k (omega arith)) in
    let f = ext_get_or 0 other.sell one.sell (d ∙ sym b) (λ k lt. sell k (omega arith)) in
    λ j. record { buy = e j; sell = f j }

-- quantities are numbers of the field
pub curve-elements : (curve : Curve) → IsCurve curve → All IsElement (quantities curve)
curve-elements curve c k d lt =
    let few : get_or (quantities curve) k d ≤ LARGEST_QUANTITY =
    All-append (λ (q : ℕ). q ≤ LARGEST_QUANTITY) curve.buy curve.sell c.buy_limit c.sell_limit k d lt in
    omega (arith, few)

-- past the end too
pub quantity-element : (curve : Curve) → IsCurve curve → (n : ℕ) → IsElement (quantity curve n)
quantity-element curve c n = element-at (quantities curve) (curve-elements curve c) n

-- what is true of each bidder is true of each that stands with its words
pub bidders-have : (P : Bidder → Type 0) (bidders : List Bidder) (words : List (List ℕ)) → All P bidders →
    All (λ (f : BidderWithWords). P f.bidder) (farmers_of bidders words)
bidders-have P [] words all = λ k d lt. absurd (omega arith)
bidders-have P (b ∷ bs) [] all = λ k d lt. absurd (omega arith)
bidders-have P (b ∷ bs) (w ∷ ws) all =
    All-cons (λ (f : BidderWithWords). P f.bidder) (record { bidder = b; words = w }) (farmers_of bs ws)
    (All-head P b bs all) (bidders-have P bs ws (All-tail P b bs all))

-- the curves of those known to the server are the same
abbrev pub SameOwn : Point → List BidderWithWords → List BidderWithWords → Type 0
SameOwn s farmers farmers' =
    (k : ℕ) (one other : BidderWithWords) → slice_get farmers k ≡ Some one → slice_get farmers' k ≡ Some other → one.bidder.known ≡ Some s →
    other.bidder.curve ≡ one.bidder.curve

farmer-at : (bidders : List Bidder) (words : List (List ℕ)) (k : ℕ) (one : BidderWithWords) →
    slice_get (farmers_of bidders words) k ≡ Some one →
    slice_get bidders k ≡ Some one.bidder
farmer-at [] words k one e = cc e
farmer-at (b ∷ bs) [] k one e = cc e
farmer-at (b ∷ bs) (w ∷ ws) zero one e = ap (λ (f : BidderWithWords). Some f.bidder) (same_Some (record { bidder = b; words = w }) one e)
farmer-at (b ∷ bs) (w ∷ ws) (suc k) one e = farmer-at bs ws k one e

pub same-own : (s : Point) (first second : Book) (words words' : List (List ℕ)) → SameKnown s first second →
    SameOwn s (farmers_of first.bidders words) (farmers_of second.bidders words')
same-own s first second words words' own k one other e f =
    own k one.bidder other.bidder (farmer-at first.bidders words k one e) (farmer-at second.bidders words' k other f)
