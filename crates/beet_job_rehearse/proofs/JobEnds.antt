-- What the job `rehearse` answers, once its files are read and its servers were looked at.
use Rattle.std.proofs.Common.{◌≡◌, List, Bool, true, false, inl, inr, refl}
use Rattle.std.specs.Prelude.{◌||◌, if◌then◌else◌}
use Rattle.beet_auction.specs.Endings.{AuctionEnds, book_finish, book_rounds}
use Rattle.beet_book.specs.Farmers.{book_with}
use Rattle.beet_auction.proofs.Ends.{book-ends}
use Rattle.beet_errand.specs.Fetches.{IsDone}
use Rattle.beet_errand.specs.declared.answer.Status.TheVariants.{Done, MasksSpent as Spent}
use Rattle.beet_load.specs.Loading.{IsKeptOf, AuctionWithInputs, AuctionWithBidders}
use Rattle.beet_load.specs.Servers.{masks_of}
use Rattle.beet_masking.specs.Masks.{AreMasks}
use Rattle.beet_plan.specs.Auction.{auction_over}
use Rattle.beet_run.specs.Runs.{setup_with}
use Rattle.beet_run.proofs.ShareLines.{shares-lines}
use Rattle.beet_world.specs.Worlds.{named_in}
use Rattle.beet_world.specs.declared.schedule.Delivery.{Delivery}
use Rattle.beet_job_rehearse.specs.Rehearse.{is_spent, rehearsal_answer, rehearsal_status, rehearsed}
use Rattle.beet_job_rehearse.specs.Rehearsing.{Rehearses}
use Rattle.beet_job_rehearse.specs.declared.standing.Rehearsal.{Rehearsal}

-- the run of an auction that is kept ends with the outcome of the book that was read, or spent
pub kept-ends : (kept : AuctionWithInputs) (loaded : AuctionWithBidders) → IsKeptOf kept loaded → AreMasks (masks_of kept.servers) →
    AuctionEnds (auction_over kept.grid) (setup_with kept.grid kept.inputs kept.servers)
    (book_rounds (book_with kept.grid loaded.farmers) (masks_of kept.servers))
    (book_finish (book_with kept.grid loaded.farmers) (masks_of kept.servers))
kept-ends kept loaded k masks =
    let b = book_with kept.grid loaded.farmers in
    book-ends b (setup_with kept.grid kept.inputs kept.servers) k.shares.slopes k.book masks refl
    (shares-lines b kept.inputs k.book k.shares)

-- the answer tells how the servers stand
pub tells : (kept : AuctionWithInputs) (loaded : AuctionWithBidders) (deliveries : List Delivery) (found : Rehearsal) →
    IsKeptOf kept loaded →
    Rehearses kept.grid kept.inputs kept.servers (named_in deliveries) found →
    rehearsed loaded deliveries ≡ rehearsal_answer kept.grid found
tells kept loaded deliveries found k h =
    let b = book_with kept.grid loaded.farmers in
    let masks = masks_of kept.servers in
    rw (k.grid, k.servers, h.found_is (book_rounds b masks) (book_finish b masks) (kept-ends kept loaded k h.masks)) refl

done-or-spent : (b : Bool) → IsDone (if b then Spent else Done)
done-or-spent true = inr refl
done-or-spent false = inl refl

-- a rehearsal ends the job as one that is done
pub rehearsal-done : (r : Rehearsal) → IsDone (rehearsal_status r)
rehearsal-done r = done-or-spent (is_spent r.servers.one || is_spent r.servers.two || is_spent r.servers.three)
