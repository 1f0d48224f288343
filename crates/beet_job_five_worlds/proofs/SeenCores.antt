-- What five servers that have run the auction of a book with these words have seen, and how they have ended.
use Rattle.std.proofs.Common.{◌≡◌, ℕ, List, Option, Some, sym, subst}
use Rattle.beet_bids.specs.Books.{Book, IsBook}
use Rattle.beet_book.specs.Farmers.{farmers_of}
use Rattle.beet_plan.specs.declared.Finish.{Finish}
use Rattle.beet_weights.specs.Quadratics.{IsServer}
use Rattle.beet_coalition.specs.Lists.{at_server}
use Rattle.beet_five_server.specs.Answers.{Core}
use Rattle.beet_plan.specs.FivePlan.{FiveAuction, five_batch, five_over}
use Rattle.beet_five_dealing.specs.FiveInputs.{setup_of}
use Rattle.beet_five_dealing.specs.FiveTotals.{five_inputs_of}
use Rattle.beet_five_dealing.specs.FiveWords.{CanRun, FiveWords}
use Rattle.beet_five_dealing.proofs.Shares.{book-shared}
use Rattle.beet_five_auction.specs.FiveEndings.{book_finish, book_rounds}
use Rattle.beet_five_lockstep.specs.FiveLockstep.{HaveEnded}
use Rattle.beet_five_run.specs.FiveRuns.{HaveRun, OpensWith}
use Rattle.beet_five_run.proofs.BookStarts.{opens-book}
use Rattle.beet_five_run.proofs.FiveEnding.{EndsAt, Outcome, masks-small}

module _ (book : Book) (words : FiveWords) where
  -- servers that have run with its inputs and words have run the auction of the book
  pub book-run : (script : FiveAuction) (inputs masks coefficients : List (List ℕ)) (cores : List (Core FiveAuction)) →
      script ≡ five_over book.grid → inputs ≡ five_inputs_of book.grid (farmers_of book.bidders words.bidders) →
      masks ≡ words.masks → coefficients ≡ words.coefficients → HaveRun five_batch script inputs masks coefficients cores →
      HaveEnded five_batch (setup_of book words) (five_over book.grid) cores
  book-run script inputs masks coefficients cores s i m c run =
      let opens : OpensWith five_batch (setup_of book words) script inputs masks coefficients =
      rw (s, i, m, c) (opens-book book words) in
      subst (λ (script : FiveAuction). HaveEnded five_batch (setup_of book words) script cores) s (run (setup_of book words) opens)

  -- what a server that has ended knows of the outcome
  pub outcome-known : (s : ℕ) (c : Core FiveAuction) (answer : Option Finish) → IsBook book → CanRun book words → IsServer s →
      EndsAt (setup_of book words) (five_over book.grid) s c → Outcome c answer →
      (answer ≡ Some (book_finish book (at_server words.masks))) × (c.work.round ≡ book_rounds book (at_server words.masks))
  outcome-known s c answer is can server e outcome =
      outcome book (setup_of book words) e.x is (masks-small book words is can) e.has_script
      (book-shared book words is can.count) (subst IsServer (sym e.name) server) e.fits e.ended
