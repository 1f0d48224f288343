-- How the job `record` ends.
use Rattle.std.proofs.Common.{◌≡◌, ℕ, List, Result, Ok, Err, IfOk, [], ◌∷◌, length, sym}
use Rattle.beet_field.specs.Trio.{member}
use Rattle.beet_field.specs.declared.point.Point.{Point}
use Rattle.beet_field.specs.declared.point.Point.TheVariants.{One, Two, Three}
use Rattle.beet_field.specs.declared.trio.Trio.{Trio}
use Rattle.beet_bids.specs.Grids.{Grid}
use Rattle.beet_errand.specs.Errands.{Answer, file_for}
use Rattle.beet_errand.specs.Fetches.{IsDone}
use Rattle.beet_errand.specs.declared.answer.Stop.{Stop}
use Rattle.beet_auction.specs.Endings.{book_finish, book_rounds}
use Rattle.beet_book.specs.Farmers.{book_with, farmers_of}
use Rattle.beet_load.specs.Loading.{AuctionWithBidders}
use Rattle.beet_load.specs.Servers.{ServerWords, masks_of}
use Rattle.beet_load.specs.WholeViews.{loaded_of}
use Rattle.beet_load.specs.declared.whole.Whole.{Whole}
use Rattle.beet_run.specs.Outcomes.{outcome_answer}
use Rattle.beet_view.specs.BookViews.{view_for}
use Rattle.beet_view.specs.Transcripts.{view_bytes}
use Rattle.beet_view.specs.declared.view.Seen.{Seen}
use Rattle.beet_transcripts.specs.RunsOn.{answer_on, file_on, view_on}
use Rattle.beet_book.proofs.FarmerLists.{book-whole}
use Rattle.beet_job_record.specs.Records.{recorded_answer, transcript_file}
use Rattle.beet_run.proofs.StatusFacts.{status-done}

-- and its status is that of a job that is done
pub record_done : (out : List ℕ) (loaded : AuctionWithBidders) (result : Result Answer Stop) →
    IfOk result (λ answer. answer ≡ recorded_answer out loaded) →
    IfOk result (λ answer. IsDone answer.status)
record_done out loaded (Ok answer) made =
    rw made (status-done (book_finish (book_with loaded.grid loaded.farmers) (masks_of loaded.servers)))
record_done out loaded (Err stop) made = tt

-- what is answered for the run of a book that is read is the answer of the job
pub answer-book : (out : List ℕ) (whole : Whole) (grid : Grid) (inputs : Trio (List ℕ)) (words : Trio ServerWords)
    (seen : Trio (List Seen)) → length whole.words.bidders ≡ length whole.book.bidders → grid ≡ whole.book.grid →
    ((s : Point) → view_on grid inputs words (member seen s) s ≡ view_for whole.book whole.words s) →
    answer_on out grid inputs words seen (book_finish whole.book whole.words.masks) (book_rounds whole.book whole.words.masks)
    ≡ recorded_answer out (loaded_of whole)
answer-book out whole grid inputs words seen many g v =
    let masks = whole.words.masks in
    let same : whole.book ≡ book_with whole.book.grid (farmers_of whole.book.bidders whole.words.bidders) =
    sym (book-whole whole.book whole.words.bidders many) in
    let file : (s : Point) → file_on out grid inputs words seen s ≡ transcript_file out (loaded_of whole) s =
    λ s j. (file_for out s, view_bytes (v s j)) in
    λ j. record (outcome_answer (g j) (book_finish (same j) masks) (book_rounds (same j) masks)) {
      files = file One j ∷ file Two j ∷ file Three j ∷ [];
    }
