-- How the job `worlds` ends, once both books are read.
use Rattle.std.proofs.Common.{◌≡◌, ℕ, List, Result, Ok, Err, sym, subst}
use Rattle.beet_field.specs.declared.point.Point.{Point}
use Rattle.beet_store.specs.Files.{Seen}
use Rattle.beet_words.specs.Bundles.{Words}
use Rattle.beet_bids.specs.Books.{Book}
use Rattle.beet_errand.specs.Errands.{Answer}
use Rattle.beet_errand.specs.Fetches.{Reads}
use Rattle.beet_errand.specs.Tasks.{DoesTask}
use Rattle.beet_errand.specs.declared.answer.Stop.{Stop}
use Rattle.beet_differences.proofs.Comparing.{compared-does, unread-does}
use Rattle.beet_load.specs.WholeViews.{loaded_of}
use Rattle.beet_load.specs.declared.whole.Whole.{Whole}
use Rattle.beet_book.proofs.FarmerLists.{farmers-words, book-whole}
use Rattle.beet_book_differences.specs.Differences.{refused_text}
use Rattle.beet_job_worlds.specs.Reading.{Both, both_errand, first_book, second_book, words_read}
use Rattle.beet_job_worlds.specs.Ending.{AnswersBooks, ShowsBoth, difference_read, worlds_task}
use Rattle.beet_job_worlds.proofs.BookAnswers.{answered-done}

-- what is read of both books
abbrev pub both_of : Whole → Book → Both
both_of whole second = record { first = loaded_of whole; second = second.bidders }

module _ (whole : Whole) (second : Book) (grids : second.grid ≡ whole.book.grid) where
  first-is : first_book (both_of whole second) ≡ whole.book
  first-is = book-whole whole.book whole.words.bidders whole.runs.lists

  read-is : words_read (both_of whole second) ≡ whole.words
  read-is = λ i. record {
    masks = whole.words.masks;
    coefficients = whole.words.coefficients;
    bidders = sym (farmers-words whole.book.bidders whole.words.bidders whole.runs.lists) i;
  }

  second-is : second_book (both_of whole second) ≡ second
  second-is = λ i. record { grid = sym grids i; bidders = second.bidders }

  -- what holds of the books and the words that the program keeps holds of those that were read
  as-read : (P : Book → Words → Book → Type 0) → P whole.book whole.words second →
      P (first_book (both_of whole second)) (words_read (both_of whole second)) (second_book (both_of whole second))
  as-read P h =
      subst (λ (b : Book). P b (words_read (both_of whole second)) (second_book (both_of whole second))) (sym first-is)
      (subst (λ (w : Words). P whole.book w (second_book (both_of whole second))) (sym read-is)
      (subst (λ (b : Book). P whole.book whole.words b) (sym second-is) h))

-- the books could not be read
pub unread : {old now : Seen} (auction servers book1 book2 : List ℕ) (s : Point) (out : List ℕ) {stop : Stop} →
    Reads {T = Both} (λ both. both) old now (both_errand auction servers book1 book2) (Err stop) →
    DoesTask (worlds_task auction servers book1 book2 s out) old now (Err stop)
unread auction servers book1 book2 s out r =
    unread-does refused_text (difference_read s) (both_errand auction servers book1 book2) (ShowsBoth s out) r

-- both books are read, and answered
pub answered-both : {old now : Seen} (auction servers book1 book2 : List ℕ) (s : Point) (out : List ℕ) (whole : Whole) (second : Book) →
    second.grid ≡ whole.book.grid → (result : Result Answer Stop) →
    Reads (λ both. both) old now (both_errand auction servers book1 book2) (Ok (both_of whole second)) →
    AnswersBooks s out whole.book whole.words second result → DoesTask (worlds_task auction servers book1 book2 s out) old now result
answered-both auction servers book1 book2 s out whole second grids result r h =
    compared-does refused_text (difference_read s) (both_errand auction servers book1 book2) (ShowsBoth s out) (both_of whole second)
    result r (answered-done s out whole.book whole.words second result h)
    (as-read whole second grids (λ b w b'. AnswersBooks s out b w b' result) h)
