-- The auction of a book that is read ends with the book's outcome.
use Rattle.std.proofs.Common.{◌≡◌, ℕ, ◌*◌, List, length, Some, sym, ◌∙◌, ap, refl}
use Rattle.beet_field.specs.Trio.{member}
use Rattle.beet_field.specs.declared.point.Point.{Point}
use Rattle.beet_field.specs.declared.trio.Trio.{Trio}
use Rattle.beet_gates.specs.Plans.{plan_finish}
use Rattle.beet_bids.specs.Books.{Book, IsBook}
use Rattle.beet_book.specs.Dealing.{AreShares}
use Rattle.beet_plan.specs.Auction.{Auction, auction_plan, auction_over}
use Rattle.beet_bids.specs.Sums.{sums_of}
use Rattle.beet_plan.specs.declared.Finish.{Finish}
use Rattle.beet_bids.proofs.BookSums.{length-sums}
use Rattle.beet_sharing.specs.Runs.{Setup, shared_at}
use Rattle.beet_auction.specs.Endings.{AuctionEnds, book_finish, book_rounds}
use Rattle.beet_auction.proofs.Ends.{book-ends}
use Rattle.beet_book.specs.Farmers.{book_with}
use Rattle.beet_load.specs.Loading.{IsKeptOf, AuctionWithInputs, AuctionWithBidders}
use Rattle.beet_load.specs.Servers.{ServerWords, masks_of}
use Rattle.beet_run.specs.Outcomes.{cleared, outcome_answer}
use Rattle.beet_run.specs.Runs.{EndsAuction, setup_with}
use Rattle.beet_run.proofs.ShareLines.{shares-lines}

-- the points of the inputs are as many as the script wants
pub inputs-many : (book : Book) (inputs : Trio (List ℕ)) → IsBook book → AreShares (sums_of book) inputs → (i : Point) →
    length (member inputs i) ≡ 2 * book.grid.prices
inputs-many book inputs b x i = (shares-lines book inputs b x).lengths i ∙ length-sums book

-- so are the points that are kept of an auction that is read
pub kept-many : (kept : AuctionWithInputs) (loaded : AuctionWithBidders) → IsKeptOf kept loaded → (i : Point) →
    length (member kept.inputs i) ≡ 2 * kept.grid.prices
kept-many kept loaded k i = inputs-many (book_with kept.grid loaded.farmers) kept.inputs k.book k.shares i

-- a run of an auction ends in one way
pub one-end : (a : Auction) (o : Setup) (r r' : ℕ) (f f' : Finish) → AuctionEnds a o r f → AuctionEnds a o r' f' → (f ≡ f') × (r ≡ r')
one-end a o r r' f f' h h' =
    let e : r ≡ r' = sym h.counted ∙ h'.counted in
    (same-finish (sym h.finish_named ∙ ap (λ n. plan_finish (auction_plan a) (shared_at o n).opened) e ∙ h'.finish_named), e) where
      same-finish : {x y : Finish} → Some x ≡ Some y → x ≡ y
      same-finish e = cc

-- with shares of a book's sums it ends with the book's outcome
pub book-run : (book : Book) (inputs : Trio (List ℕ)) (words : Trio ServerWords) (finish : Finish) (rounds : ℕ) → IsBook book →
    AreShares (sums_of book) inputs → EndsAuction book.grid inputs words finish rounds →
    (finish ≡ book_finish book (masks_of words)) × (rounds ≡ book_rounds book (masks_of words))
book-run book inputs words finish rounds b x h =
    one-end (auction_over book.grid) (setup_with book.grid inputs words) rounds
    (book_rounds book (masks_of words)) finish (book_finish book (masks_of words))
    h.ends (book-ends book (setup_with book.grid inputs words) x.slopes b h.masks refl (shares-lines book inputs b x))

-- so the answer for an auction that is read tells the finish and the rounds of the run
pub tells-run : (kept : AuctionWithInputs) (loaded : AuctionWithBidders) (finish : Finish) (rounds : ℕ) → IsKeptOf kept loaded →
    EndsAuction kept.grid kept.inputs kept.servers finish rounds → cleared loaded ≡ outcome_answer kept.grid finish rounds
tells-run kept loaded finish rounds k run =
    let ends = book-run (book_with kept.grid loaded.farmers) kept.inputs kept.servers finish rounds k.book k.shares run in
    rw (k.grid, k.servers, ends.0, ends.1) refl
