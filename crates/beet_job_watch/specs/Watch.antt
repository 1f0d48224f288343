-- The job `watch`: the answer of `clear`, and what the desk counted of each server.
use Rattle.std.specs.Prelude.{ℕ, List, ◌++◌, codes, decimal, length}
use Rattle.beet_field.specs.Point.{number_of}
use Rattle.beet_field.specs.Trio.{trio_of}
use Rattle.beet_field.specs.declared.point.Point.{Point}
use Rattle.beet_field.specs.declared.point.Point.TheVariants.{One, Two, Three}
use Rattle.beet_field.specs.declared.trio.Trio.{Trio}
use Rattle.beet_gates.specs.Clear.{clear_values}
use Rattle.beet_bids.specs.Books.{Book}
use Rattle.beet_bids.specs.Sums.{sums_of}
use Rattle.beet_book.specs.Farmers.{book_with}
use Rattle.beet_plan.specs.Auction.{auction_batch, auction_over, most_rounds}
use Rattle.beet_desk.specs.declared.counts.NoteCount.{NoteCount}
use Rattle.beet_auction.specs.Endings.{book_rounds}
use Rattle.beet_errand.specs.Errands.{Answer, Errand, Ends, Step, gives, ◌>>=◌}
use Rattle.beet_errand.specs.Texts.{line_of}
use Rattle.beet_load.specs.Loading.{AuctionWithBidders, loaded_errand}
use Rattle.beet_load.specs.Servers.{masks_of}
use Rattle.beet_run.specs.Outcomes.{cleared}

-- how many numbers the auction of a book opens with these mask words, as its script runs on the sums of the book
abbrev pub book_opened : Book → Trio (List ℕ) → ℕ
book_opened book masks =
    let auction = auction_over book.grid in
    length (clear_values (auction_batch auction) (most_rounds auction) (sums_of book) masks).opened

-- what each server tells in it: a note on each round, and in them each number that is opened
abbrev pub book_count : Book → Trio (List ℕ) → NoteCount
book_count book masks = record { notes = book_rounds book masks; opened = book_opened book masks }

-- the line of a server: how many notes were counted of it, and how many numbers they name
abbrev pub count_text : Point → NoteCount → List ℕ
count_text s count =
    line_of (codes "server " ++ decimal (number_of s) ++ codes " notes " ++ decimal count.notes ++ codes " opened "
    ++ decimal count.opened)

-- an answer, with a line for each server behind its text
abbrev pub with_counts : Trio NoteCount → Answer → Answer
with_counts counts answer = record answer {
  text = answer.text ++ count_text One counts.one ++ count_text Two counts.two ++ count_text Three counts.three;
}

-- the answer for an auction that is read
abbrev pub watched : AuctionWithBidders → Answer
watched loaded =
    let count = book_count (book_with loaded.grid loaded.farmers) (masks_of loaded.servers) in
    with_counts (trio_of (λ _. count)) (cleared loaded)

-- the whole job
abbrev pub watch_job : List ℕ → List ℕ → List ℕ → Step Answer
watch_job auction servers book = do
  loaded ← loaded_errand auction servers book
  gives (watched loaded)

-- what it does outside
abbrev pub watch_errand : List ℕ → List ℕ → List ℕ → Errand
watch_errand auction servers book = watch_job auction servers book Ends
