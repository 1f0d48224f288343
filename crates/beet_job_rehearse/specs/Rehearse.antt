-- The job `rehearse`: how three servers stand in the auction of a book once the messages of a schedule are delivered.
use Rattle.std.specs.Prelude.{ℕ, List, ◌||◌, if◌then◌else◌, Bool, true, false}
use Rattle.beet_field.specs.declared.trio.Trio.{Trio}
use Rattle.beet_auction.specs.Endings.{book_finish, book_rounds}
use Rattle.beet_book.specs.Farmers.{book_with}
use Rattle.beet_bids.specs.Grids.{Grid}
use Rattle.beet_errand.specs.Errands.{Answer, Errand, Ends, Step, gives, reads, text_answer, ◌>>=◌}
use Rattle.beet_errand.specs.declared.answer.Status.{Status}
use Rattle.beet_errand.specs.declared.answer.Status.TheVariants.{Done, MasksSpent as Spent}
use Rattle.beet_load.specs.Loading.{AuctionWithBidders, loaded_errand}
use Rattle.beet_load.specs.Servers.{masks_of}
use Rattle.beet_plan.specs.declared.Finish.TheVariants.{Price, NoPrice, MasksSpent}
use Rattle.beet_delivery.specs.Events.{Triple, after}
use Rattle.beet_world.specs.Schedules.{schedule_of}
use Rattle.beet_world.specs.Worlds.{named_in}
use Rattle.beet_world.specs.declared.schedule.Delivery.{Delivery}
use Rattle.beet_job_rehearse.specs.Standings.{rehearsal_of}
use Rattle.beet_job_rehearse.specs.StandingTexts.{rehearsal_text, servers_text}
use Rattle.beet_job_rehearse.specs.declared.standing.Standing.{Standing}
use Rattle.beet_job_rehearse.specs.declared.standing.Standing.TheVariants.{Waiting, Ended}
use Rattle.beet_job_rehearse.specs.declared.standing.Rehearsal.{Rehearsal}
use Rattle.beet_world.specs.declared.schedule.TheConstants.{SCHEDULE_LIMIT}

-- whether a server has ended with the third rejected mask
abbrev pub is_spent : Standing → Bool
is_spent (Waiting round) = false
is_spent (Ended (Price place volume supply)) = false
is_spent (Ended NoPrice) = false
is_spent (Ended MasksSpent) = true

-- the masks are spent if they are at one server at least
abbrev pub servers_status : Trio Standing → Status
servers_status servers =
    if is_spent servers.one || is_spent servers.two || is_spent servers.three then Spent else Done

abbrev pub rehearsal_status : Rehearsal → Status
rehearsal_status rehearsal = servers_status rehearsal.servers

-- the answer that tells of the servers alone
abbrev pub servers_answer : Grid → Trio Standing → Answer
servers_answer grid servers = text_answer (servers_status servers) (servers_text grid servers)

-- the answer that tells how the servers stand
abbrev pub rehearsal_answer : Grid → Rehearsal → Answer
rehearsal_answer grid rehearsal = text_answer (rehearsal_status rehearsal) (rehearsal_text grid rehearsal)

-- how the servers of an auction that is read stand after these events: one that has passed all rounds has ended with
-- the book's outcome, or spent, whatever the order, the repeats and the delays of the messages
abbrev pub rehearsal_after : AuctionWithBidders → List Triple → Rehearsal
rehearsal_after loaded events =
    let book = book_with loaded.grid loaded.farmers in
    let masks = masks_of loaded.servers in
    let rounds = book_rounds book masks in
    rehearsal_of (book_finish book masks) rounds (after rounds events)

-- the answer for an auction and a schedule that are read
abbrev pub rehearsed : AuctionWithBidders → List Delivery → Answer
rehearsed loaded schedule = rehearsal_answer loaded.grid (rehearsal_after loaded (named_in schedule))

-- the schedule comes after the auction, its servers and its book
abbrev pub rehearse_job : List ℕ → List ℕ → List ℕ → List ℕ → Step Answer
rehearse_job auction servers book schedule = do
  loaded ← loaded_errand auction servers book
  deliveries ← reads schedule SCHEDULE_LIMIT schedule_of
  gives (rehearsed loaded deliveries)

-- what it does outside
abbrev pub rehearse_errand : List ℕ → List ℕ → List ℕ → List ℕ → Errand
rehearse_errand auction servers book schedule = rehearse_job auction servers book schedule Ends
