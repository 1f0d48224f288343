-- What a server sees of two bidders that deal with the same words.
use Rattle.std.proofs.Common.{◌≡◌, ◌<◌, ◌*◌, ℕ, zero, suc, List, [], ◌∷◌, map, slice_get, slice_index, Some, sym}
use Rattle.std.proofs.Common.{ap, ◌∙◌}
use Rattle.std.proofs.lemmas.Option.{same_Some}
use Rattle.beet_field.specs.Field.{sub_of}
use Rattle.beet_field.specs.declared.point.Point.{Point}
use Rattle.beet_shamir.specs.Line.{point_of}
use Rattle.beet_words.specs.Bundles.{Words}
use Rattle.beet_words.specs.Words.{accepted}
use Rattle.beet_gates.proofs.EachFacts.{item-each}
use Rattle.beet_bids.specs.Books.{Book, IsBook}
use Rattle.beet_bids.specs.Curves.{IsCurve, quantity}
use Rattle.beet_bids.specs.declared.book.Bidder.{Bidder}
use Rattle.beet_book.specs.Farmers.{BidderWithWords, farmers_of, point_for}
use Rattle.beet_turned.proofs.MasksBack.{all-at}
use Rattle.beet_view.specs.BookViews.{seen_at}
use Rattle.beet_view.specs.declared.view.Seen.{Seen}
use Rattle.beet_trades.specs.Enough.{HasAccepted}
use Rattle.beet_map.proofs.Disagreeing.{get-map}
use Rattle.beet_auction_map.proofs.CutRuns.{cut, farmers-cut, point-cut}
use Rattle.beet_headline.specs.Statements.{CanRun, IsSeen}
use Rattle.beet_headline.proofs.Sealed.{difference}
use Rattle.beet_two_books.proofs.BidderFacts.{quantity-element}

farmer-there : (bidders : List Bidder) (words : List (List ℕ)) (k : ℕ) (bidder : Bidder) (list : List ℕ) →
    slice_get bidders k ≡ Some bidder →
    slice_get words k ≡ Some list → slice_get (farmers_of bidders words) k ≡ Some
    (record { bidder = bidder; words = list })
farmer-there [] words k bidder list e f = cc e
farmer-there (b ∷ bs) [] k bidder list e f = cc f
farmer-there (b ∷ bs) (w ∷ ws) zero bidder list e f =
    let is : b ≡ bidder = same_Some b bidder e in
    let it : w ≡ list = same_Some w list f in
    λ i. Some (record { bidder = is i; words = it i })
farmer-there (b ∷ bs) (w ∷ ws) (suc k) bidder list e f = farmer-there bs ws k bidder list e f

-- a server sees the points that a bidder deals
point-seen : (s : Point) (book : Book) (words : Words) (k n : ℕ) (bidder : Bidder) (list : List ℕ) (seen : Seen) →
    CanRun book words →
    IsSeen s book words k bidder list seen → n < 2 * book.grid.prices →
    slice_index seen.points n ≡ point_of (quantity bidder.curve n) (slice_index (accepted list) n) s
point-seen s book words k n bidder list seen runs is lt =
    let wanted : ℕ = 2 * book.grid.prices in
    let f : BidderWithWords = record { bidder = bidder; words = list } in
    let enough : HasAccepted wanted list = all-at (HasAccepted wanted) words.bidders k list runs.enough.bidders
    is.deals in
    let there = get-map (seen_at book.grid s) (map (cut wanted) (farmers_of book.bidders words.bidders)) k
    (cut wanted f)
    (get-map (cut wanted) (farmers_of book.bidders words.bidders) k f
    (farmer-there book.bidders words.bidders k bidder list is.bids is.deals)) in
    let same : seen ≡ seen_at book.grid s (cut wanted f) =
    same_Some seen (seen_at book.grid s (cut wanted f))
    (sym is.shows ∙ ap (λ l. slice_get (map (seen_at book.grid s) l) k) (farmers-cut wanted book.bidders words.bidders)
    ∙ there) in
    ap (λ (x : Seen). slice_index x.points n) same ∙ item-each (point_for (cut wanted f) s) wanted n lt
    ∙ point-cut wanted f enough s n lt

pub difference-seen : (s : Point) (first second : Book) (words words' : Words) (j k n : ℕ) (one other : Bidder)
    (list : List ℕ) (seen seen' : Seen) →
    IsBook first → IsBook second → CanRun first words → CanRun second words' → IsSeen s first words j one list seen →
    IsSeen s second words' k other list seen' → n < 2 * first.grid.prices → n < 2 * second.grid.prices →
    sub_of (slice_index seen'.points n) (slice_index seen.points n) ≡ sub_of (quantity other.curve n)
    (quantity one.curve n)
difference-seen s first second words words' j k n one other list seen seen' b b' runs runs' is is' lt lt' =
    let curve : Bidder → Type 0 = λ bidder. IsCurve bidder.curve in
    (λ i. sub_of (point-seen s second words' k n other list seen' runs' is' lt' i)
    (point-seen s first words j n one list seen runs is lt i))
    ∙ difference s (quantity one.curve n) (quantity other.curve n) (slice_index (accepted list) n)
    (quantity-element one.curve (all-at curve first.bidders j one b.curves is.bids) n)
    (quantity-element other.curve (all-at curve second.bidders k other b'.curves is'.bids) n)
