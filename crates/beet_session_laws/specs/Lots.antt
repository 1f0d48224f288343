-- What each command of the program of sessions has read and said if its run ends with status 0 or 6, over a shelf
-- whose answers are of these files.
use Rattle.std.specs.Prelude.{◌≡◌, ◌++◌, ◌+◌, ℕ, List, [], ◌∷◌, Some, if◌then◌else◌, length, map, slice_get, sum}
use Rattle.beet_field.specs.Trio.{member}
use Rattle.beet_field.specs.declared.point.Point.{Point}
use Rattle.beet_store.specs.Files.{File}
use Rattle.beet_words.specs.Bundles.{Words}
use Rattle.beet_bids.specs.Books.{Book}
use Rattle.beet_bids.specs.Outcomes.{outcome_of}
use Rattle.beet_book.specs.declared.server_file.TheConstants.{SERVERS_LIMIT}
use Rattle.beet_plan.specs.Runs.{finish_of}
use Rattle.beet_plan.specs.declared.Finish.{Finish}
use Rattle.beet_plan.specs.declared.Finish.TheVariants.{MasksSpent}
use Rattle.beet_delivery.specs.Events.{Triple, after, undelivered}
use Rattle.beet_world.specs.declared.schedule.TheConstants.{SCHEDULE_LIMIT}
use Rattle.beet_auction.specs.Endings.{book_rounds}
use Rattle.beet_auction.specs.Setups.{rounds_for}
use Rattle.beet_headline.specs.Statements.{AllHaveEnded, are_spent, standing}
use Rattle.beet_lots.specs.LotEvents.{LotTriple, of_lot}
use Rattle.beet_lots.specs.LotWorlds.{lot_triples}
use Rattle.beet_lot_files.specs.LotSchedules.{lot_schedule_of}
use Rattle.beet_lot_files.specs.SeedFiles.{seed_servers_of}
use Rattle.beet_lot_files.specs.SessionFiles.{session_of}
use Rattle.beet_lot_files.specs.declared.session_file.TheConstants.{SESSION_LIMIT}
use Rattle.beet_errand.specs.Errands.{Answer, reads}
use Rattle.beet_errand.specs.Overs.{ReadsTo}
use Rattle.beet_errand.specs.Statuses.{code_of}
use Rattle.beet_load.specs.Loading.{AuctionWithBidders}
use Rattle.beet_load.specs.WholeViews.{loaded_with}
use Rattle.beet_run.specs.Outcomes.{outcome_answer}
use Rattle.beet_lot_load.specs.Lots.{lots_errand}
use Rattle.beet_lot_load.specs.Telling.{lots_status, lots_text}
use Rattle.beet_job_rehearse.specs.Rehearse.{servers_answer}
use Rattle.beet_job_rehearse.specs.StandingTexts.{undelivered_line}
use Rattle.beet_job_rehearse.specs.declared.standing.Rehearsal.{Rehearsal}
use Rattle.beet_session_app.specs.Doing.{task_of}
use Rattle.beet_session_app.specs.Jobs.{job_of}
use Rattle.beet_app_laws.specs.Calls.{Call, Says}
use Rattle.beet_app_laws.specs.Readings.{Read}
use Rattle.beet_app_laws.specs.Tables.{IsDoneTable, RunsTable}
use Rattle.beet_program_laws.specs.Outcomes.{IsShown, ServersOpen}

-- the call ran these words over these files
abbrev pub RunsSession : List File → List (List ℕ) → Call → Type 0
RunsSession = RunsTable job_of task_of

-- and ended with status 0 or 6
abbrev pub IsDoneSession : List File → List (List ℕ) → Call → Type 0
IsDoneSession = IsDoneTable job_of task_of

-- a lot: a book, and words with which its auction can be run, so that its servers open the outcome of the book, or the
-- masks are spent
pub record Lot : Type 0 where
  pub book : Book
  pub words : Words
  pub run : ServersOpen book words

-- what is read as a lot
abbrev pub loaded_lot : Lot → AuctionWithBidders
loaded_lot lot = loaded_with lot.book lot.words

-- the files read as the rows of a session, the seeds of its servers, and a lot for each row, with the words of its own
-- streams
pub record LotsRead (files : List File) (session servers : List ℕ) : Type 0 where
  pub rows : Read files (reads session SESSION_LIMIT session_of)
  pub sources : Read files (reads servers SERVERS_LIMIT seed_servers_of)
  pub lots : List Lot
  pub count : length lots ≡ length rows.value
  pub are_read : ReadsTo files (lots_errand sources.value rows.value) (map loaded_lot lots)

-- how the auction of a lot ends: with the outcome of the plaintext auction of its book, or spent
abbrev pub lot_finish : Lot → Finish
lot_finish lot = if are_spent lot.book lot.words then MasksSpent else finish_of (outcome_of lot.book)

-- what tells it, and after how many rounds
abbrev pub end_of_lot : Lot → Answer
end_of_lot lot = outcome_answer lot.book.grid (lot_finish lot) (book_rounds lot.book lot.words.masks)

-- `session`: of each lot its name and its end was said, and nothing else. The status is 6 exactly if a lot is spent
pub record RunsLots (files : List File) (session servers : List ℕ) (call : Call) : Type 0 where
  pub read : LotsRead files session servers
  pub status_is : call.status ≡ code_of (lots_status (map end_of_lot read.lots))
  pub said : Says call (lots_text read.rows.value (map end_of_lot read.lots))

-- after these events of a lot its servers stand as a rehearsal shows. If nothing of it is undelivered, all have ended
pub record StandsShown (lot : Lot) (es : List Triple) (rehearsal : Rehearsal) : Type 0 where
  pub shown : (s : Point) → IsShown (standing lot.book lot.words es s) (member rehearsal.servers s)
  pub left : rehearsal.undelivered
      ≡ undelivered (rounds_for lot.book lot.words) (after (rounds_for lot.book lot.words) es)
  pub all : rehearsal.undelivered ≡ 0 → AllHaveEnded lot.book lot.words es

-- the lots, of which the first has this number, each stand by their own events
abbrev pub StandAlone : List LotTriple → ℕ → List Lot → List Rehearsal → Type 0
StandAlone es number [] [] = Unit {0}
StandAlone es number (lot ∷ lots) (rehearsal ∷ rehearsals) =
    StandsShown lot (of_lot number es) rehearsal × StandAlone es (number + 1) lots rehearsals
StandAlone es number _ _ = ⊥

-- what tells how the servers of each lot stand
abbrev pub standing_answers : List Lot → List Rehearsal → List Answer
standing_answers (lot ∷ lots) (rehearsal ∷ rehearsals) =
    servers_answer lot.book.grid rehearsal.servers ∷ standing_answers lots rehearsals
standing_answers _ _ = []

-- `replay`: so the files read, and a schedule for these lots; of each lot its name and how its servers stand by its own
-- events was said, and then how many messages of all lots are undelivered. The status is 6 exactly if a server of a lot
-- has ended with spent masks. If nothing is undelivered, all servers of all lots have ended
pub record ShowsLots (files : List File) (session servers schedule : List ℕ) (call : Call) : Type 0 where
  pub read : LotsRead files session servers
  pub deliveries : Read files (reads schedule SCHEDULE_LIMIT (lot_schedule_of (length read.rows.value)))
  pub rehearsals : List Rehearsal
  pub alone : StandAlone (lot_triples deliveries.value) 0 read.lots rehearsals
  pub all : sum (map (λ rehearsal. rehearsal.undelivered) rehearsals) ≡ 0 → (number : ℕ) (lot : Lot) →
      slice_get read.lots number ≡ Some lot →
      AllHaveEnded lot.book lot.words (of_lot number (lot_triples deliveries.value))
  pub status_is : call.status ≡ code_of (lots_status (standing_answers read.lots rehearsals))
  pub said : Says call (lots_text read.rows.value (standing_answers read.lots rehearsals)
      ++ undelivered_line (sum (map (λ rehearsal. rehearsal.undelivered) rehearsals)))
