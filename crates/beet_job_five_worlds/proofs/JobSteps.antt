-- How the job `five_worlds` ends, once both books are read.
use Rattle.std.proofs.Common.{◌≡◌, ℕ, List, Option, Result, Ok, Err, subst}
use Rattle.beet_store.specs.Files.{Seen}
use Rattle.beet_bids.specs.Books.{Book}
use Rattle.beet_errand.specs.Errands.{Answer}
use Rattle.beet_errand.specs.Fetches.{Reads}
use Rattle.beet_errand.specs.Tasks.{DoesTask}
use Rattle.beet_errand.specs.declared.answer.Stop.{Stop}
use Rattle.beet_two_books.specs.declared.agreeing.MapFault.{MapFault}
use Rattle.beet_differences.proofs.Comparing.{compared-does, unread-does}
use Rattle.beet_five_load.specs.FiveLoading.{FiveRead}
use Rattle.beet_book_differences.specs.Differences.{refused_text}
use Rattle.beet_job_five_worlds.specs.Reading.{BothOfFive, both_errand, both_of, second_book}
use Rattle.beet_job_five_worlds.specs.Answering.{ShowsTheSameForTwo}
use Rattle.beet_job_five_worlds.specs.Ending.{AnswersForTwo, difference_for_two, five_worlds_task}
use Rattle.beet_job_five_worlds.proofs.BookAnswers.{answered-done}

-- the difference between books that are read, and what the answer for them shows
abbrev difference_read : ℕ → ℕ → BothOfFive → Option MapFault
difference_read a b both = difference_for_two a b both.first.book (second_book both)

abbrev ShowsBoth : ℕ → ℕ → List ℕ → BothOfFive → Answer → Type 0
ShowsBoth a b out both answer = ShowsTheSameForTwo a b out both.first (second_book both) answer

module _ {old now : Seen} (auction servers book1 book2 : List ℕ) (a b : ℕ) (out : List ℕ) where
  -- the books could not be read
  pub unread : {stop : Stop} → Reads {T = BothOfFive} (λ both. both) old now (both_errand auction servers book1 book2) (Err stop) →
      DoesTask (five_worlds_task auction servers book1 book2 a b out) old now (Err stop)
  unread r = unread-does refused_text (difference_read a b) (both_errand auction servers book1 book2) (ShowsBoth a b out) r

  -- both books are read, and answered
  pub answered-both : (first : FiveRead) (second : Book) → second.grid ≡ first.book.grid → (result : Result Answer Stop) →
      Reads {T = BothOfFive} (λ both. both) old now (both_errand auction servers book1 book2) (Ok (both_of first second)) →
      AnswersForTwo a b out first second result → DoesTask (five_worlds_task auction servers book1 book2 a b out) old now result
  answered-both first second grids result r h =
      let is : second ≡ record { grid = first.book.grid; bidders = second.bidders } =
      λ i. record { grid = grids i; bidders = second.bidders } in
      compared-does refused_text (difference_read a b) (both_errand auction servers book1 book2) (ShowsBoth a b out)
      (both_of first second) result r (answered-done a b out first second result h)
      (subst (λ (b' : Book). AnswersForTwo a b out first b' result) is h)
