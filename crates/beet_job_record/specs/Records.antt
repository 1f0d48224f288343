-- The job `record`: what each server has seen of the auction of a book.
use Rattle.std.specs.Prelude.{List, [], ◌∷◌, ℕ}
use Rattle.beet_field.specs.declared.point.Point.{Point}
use Rattle.beet_field.specs.declared.point.Point.TheVariants.{One, Two, Three}
use Rattle.beet_store.specs.Files.{File}
use Rattle.beet_auction.specs.Endings.{book_finish, book_rounds}
use Rattle.beet_book.specs.Farmers.{book_with}
use Rattle.beet_errand.specs.Errands.{Answer, Errand, Ends, Step, file_for, gives, ◌>>=◌}
use Rattle.beet_load.specs.Loading.{AuctionWithBidders}
use Rattle.beet_load.specs.Servers.{masks_of, coefficients_of}
use Rattle.beet_load.specs.Wholes.{limited_errand}
use Rattle.beet_run.specs.Outcomes.{outcome_answer}
use Rattle.beet_view.specs.BookViews.{transcript_of_book}

-- the transcript of a server in its file
abbrev pub transcript_file : List ℕ → AuctionWithBidders → Point → File
transcript_file out loaded s = (
  file_for out s,
  transcript_of_book loaded.grid loaded.farmers (masks_of loaded.servers) (coefficients_of loaded.servers) s,
)

-- the answer for an auction that is read: the transcripts of servers 1, 2 and 3, and how the run ended
abbrev pub recorded_answer : List ℕ → AuctionWithBidders → Answer
recorded_answer out loaded =
    let book = book_with loaded.grid loaded.farmers in
    let masks = masks_of loaded.servers in
    record (outcome_answer loaded.grid (book_finish book masks) (book_rounds book masks)) {
      files = transcript_file out loaded One ∷ transcript_file out loaded Two ∷ transcript_file out loaded Three ∷ [];
    }

-- the whole job
abbrev pub record_job : List ℕ → List ℕ → List ℕ → List ℕ → Step Answer
record_job auction servers book out = do
  loaded ← limited_errand auction servers book
  gives (recorded_answer out loaded)

-- what it does outside
abbrev pub record_errand : List ℕ → List ℕ → List ℕ → List ℕ → Errand
record_errand auction servers book out = record_job auction servers book out Ends
