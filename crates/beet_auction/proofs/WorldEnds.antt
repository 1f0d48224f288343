-- How a server stands in a `World` that runs an auction.
use Rattle.std.proofs.Common.{◌≡◌, ℕ, List, refl, sym, ◌∙◌, ap, subst}
use Rattle.beet_field.specs.declared.point.Point.{Point}
use Rattle.beet_field.specs.declared.trio.Trio.{Trio}
use Rattle.beet_gates.specs.Plans.{plan_finish}
use Rattle.beet_bids.specs.Books.{Book, IsBook}
use Rattle.beet_bids.specs.Grids.{Grid}
use Rattle.beet_plan.specs.Auction.{Auction, auction_batch, auction_plan, auction_over}
use Rattle.beet_masking.specs.Masks.{AreMasks}
use Rattle.beet_bids.specs.Sums.{sums_of}
use Rattle.beet_plan.specs.declared.Finish.{Finish}
use Rattle.beet_server.specs.Cores.{Core}
use Rattle.beet_delivery.specs.Events.{passed}
use Rattle.beet_sharing.specs.Lines.{OnLines}
use Rattle.beet_sharing.specs.Runs.{Setup, shared_at}
use Rattle.beet_server.proofs.Passing.{at_passed, ended_at}
use Rattle.beet_world.specs.Worlds.{World, delivered_in}
use Rattle.beet_auction.specs.Endings.{AuctionEnds, book_finish, book_rounds}
use Rattle.beet_auction.specs.Setups.{book_setup}
use Rattle.beet_book.specs.Farmers.{BidderWithWords, book_with}
use Rattle.beet_auction.specs.WorldEnds.{IsAuctionCore, StandsBy, auction_in}
use Rattle.beet_auction.proofs.BookLines.{book-lines, slopes_of}
use Rattle.beet_auction.proofs.Ends.{book-ends}

-- once it is known how the run ends, it is known how each server stands
pub stands-by : (w : World Auction) (s : Point) (c : Core Auction) → IsAuctionCore w s c →
    (rounds : ℕ) (finish : Finish) → AuctionEnds w.start.one.script (auction_in w) rounds finish → StandsBy rounds finish w s c
stands-by w s c h rounds finish e =
    let run : Setup = auction_in w in
    let x = delivered_in w in
    let at : c.round ≡ passed rounds x s =
    at_passed auction_batch run x c rounds e.has_rounds h.fits h.quiet ∙ ap (passed rounds x) h.name in
    let over = ended_at auction_batch run x c rounds e.has_rounds h.fits in
    record {
      round = at;
      ended = (λ ended. sym at ∙ over.0 ended, λ all. over.1 (at ∙ all));
      opens = λ ended.
          ap (λ a. plan_finish (auction_plan a) c.opened) h.script
          ∙ ap (plan_finish (auction_plan w.start.one.script)) (h.fits.opened ∙ ap (λ t. (shared_at run t).opened) (over.0 ended))
          ∙ e.finish_named;
    }

-- on points of lines with the sums of a book it ends as the auction of the book does
pub stands-by-book : (book : Book) (slopes : List ℕ) (w : World Auction) (s : Point) (c : Core Auction) → IsBook book →
    AreMasks (auction_in w).masks →
    w.start.one.script ≡ auction_over book.grid → OnLines (sums_of book) slopes (auction_in w).inputs → IsAuctionCore w s c →
    StandsBy (book_rounds book (auction_in w).masks) (book_finish book (auction_in w).masks) w s c
stands-by-book book slopes w s c b m script lines h =
    let rounds = book_rounds book (auction_in w).masks in
    let finish = book_finish book (auction_in w).masks in
    stands-by w s c h rounds finish
    (subst (λ a. AuctionEnds a (auction_in w) rounds finish) (sym script)
    (book-ends book (auction_in w) slopes b m (ap auction_batch script) lines))

-- and so it does on the points that the bidders of a book deal
pub stands-by-bids : (grid : Grid) (farmers : List BidderWithWords) (masks coefficients : Trio (List ℕ))
    (w : World Auction) (s : Point) (c : Core Auction) →
    IsBook (book_with grid farmers) → AreMasks masks → w.start.one.script ≡ auction_over grid →
    auction_in w ≡ book_setup grid farmers masks coefficients → IsAuctionCore w s c →
    StandsBy (book_rounds (book_with grid farmers) masks) (book_finish (book_with grid farmers) masks) w s c
stands-by-bids grid farmers masks coefficients w s c b m script setup h =
    let book = book_with grid farmers in
    let o = book_setup grid farmers masks coefficients in
    let rounds = book_rounds book masks in
    let finish = book_finish book masks in
    stands-by w s c h rounds finish
    (subst (λ a. AuctionEnds a (auction_in w) rounds finish) (sym script)
    (subst (λ r. AuctionEnds (auction_over grid) r rounds finish) (sym setup)
    (book-ends book o (slopes_of grid farmers) b m refl (book-lines grid farmers b))))
