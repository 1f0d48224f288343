-- The answer that tells how a run ended.
use Rattle.std.specs.Prelude.{ℕ}
use Rattle.beet_auction.specs.Endings.{book_finish, book_rounds}
use Rattle.beet_bids.specs.Grids.{Grid}
use Rattle.beet_book.specs.Farmers.{book_with}
use Rattle.beet_errand.specs.Errands.{Answer, text_answer}
use Rattle.beet_errand.specs.declared.answer.Status.{Status}
use Rattle.beet_errand.specs.declared.answer.Status.TheVariants.{Done, MasksSpent as Spent}
use Rattle.beet_load.specs.Loading.{AuctionWithBidders}
use Rattle.beet_load.specs.Servers.{masks_of}
use Rattle.beet_plan.specs.declared.Finish.{Finish}
use Rattle.beet_plan.specs.declared.Finish.TheVariants.{Price, NoPrice, MasksSpent}
use Rattle.beet_run.specs.OutcomeTexts.{outcome_text}

-- the status of a run that ends so
abbrev pub status_of : Finish → Status
status_of (Price place volume supply) = Done
status_of NoPrice = Done
status_of MasksSpent = Spent

-- the answer that tells a finish and a number of rounds
abbrev pub outcome_answer : Grid → Finish → ℕ → Answer
outcome_answer grid finish rounds = text_answer (status_of finish) (outcome_text grid finish rounds)

-- the answer for an auction that is read: its outcome, and after how many rounds three servers find it
abbrev pub cleared : AuctionWithBidders → Answer
cleared loaded =
    let book = book_with loaded.grid loaded.farmers in
    let masks = masks_of loaded.servers in
    outcome_answer loaded.grid (book_finish book masks) (book_rounds book masks)
