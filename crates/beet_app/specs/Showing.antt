-- What is left by a run that has compared two worlds, or audited three transcripts: in plain words, what it shows.
use Rattle.std.specs.Prelude.{◌≡◌, ◌++◌, List, ℕ, codes, Option, Some, None, IsSomeAnd}
use Rattle.beet_field.specs.declared.point.Point.{Point}
use Rattle.beet_store.specs.Files.{Told, bytes_of}
use Rattle.beet_store.specs.Desks.{Given}
use Rattle.beet_words.specs.Bundles.{Words, bundle_bytes}
use Rattle.beet_bids.specs.Books.{Book}
use Rattle.beet_two_books.specs.Agreement.{Agree}
use Rattle.beet_auction_map.specs.MappedWords.{IsOnlyFirst, IsOnlySecond, Mapped}
use Rattle.beet_job_worlds.specs.Answering.{worlds_text}
use Rattle.beet_view.specs.BookViews.{transcript_for}
use Rattle.beet_errand.specs.Errands.{Step}
use Rattle.beet_errand.specs.Fetches.{IsRead}
use Rattle.beet_errand.specs.Worlds.{equal_text}
use Rattle.beet_job_worlds.specs.Reading.{Both, both_errand, first_book, second_book, words_read}
use Rattle.beet_five_dealing.specs.FiveWords.{FiveWords}
use Rattle.beet_five_load.specs.FiveLoading.{FiveRead}
use Rattle.beet_five_map.specs.FiveWorlds.{Agree as AgreeForTwo, AreOnePair}
use Rattle.beet_five_view.specs.JointBooks.{joint_transcript}
use Rattle.beet_five_view.specs.WordsFiles.{words_bytes}
use Rattle.beet_five_run.specs.FiveOutcomes.{cleared_by_five}
use Rattle.beet_job_five_worlds.specs.Reading.{both_errand as both_of_five, second_book as second_of_five}
use Rattle.beet_audit.specs.OneRuns.{OneRun}
use Rattle.beet_job_audit.specs.Ending.{run_answer}
use Rattle.beet_job_audit.specs.Reading.{read_errand}
use Rattle.beet_job_audit.specs.declared.reading.ReadViews.{ReadViews}
use Rattle.beet_app.specs.Jobs.{Job, Answering, Comparing, ComparingForTwo, Auditing}

-- the desk holds what was seen in either world, which is the same, and words; and a text was said
pub record HoldsSame (out first second words text : List ℕ) (given now : Given) : Type 0 where
  pub first_file : bytes_of now.files (out ++ codes ".first") ≡ Some first
  pub second_file : bytes_of now.files (out ++ codes ".second") ≡ Some second
  pub same : first ≡ second
  pub words_file : bytes_of now.files (out ++ codes ".words") ≡ Some words
  pub said : now.said ≡ given.said ++ text

-- two books agree for a server, and there are words of the second world that are mapped from those of the first; no
-- others are, and they are mapped from no others. The desk holds what the server sees of the first book with its words,
-- what it sees of the second book with these, which is the same, and these words; how the first world ends was said
pub record HoldsWorlds (s : Point) (out : List ℕ) (first : Book) (words : Words) (second : Book)
    (given now : Given) : Type 0 where
  pub agree : Agree s first second
  pub second_words : Words
  pub mapped : Mapped s first words second second_words
  pub only : IsOnlySecond s first words second second_words
  pub back : IsOnlyFirst s first words second second_words
  pub held : HoldsSame out (transcript_for first words s) (transcript_for second second_words s)
      (bundle_bytes second_words) (worlds_text first words) given now

-- the desk holds both worlds of the books that are read
abbrev pub HoldsBoth : Point → List ℕ → Both → Given → Given → Type 0
HoldsBoth s out both given now =
    HoldsWorlds s out (first_book both) (words_read both) (second_book both) given now

-- the same for servers a and b of five together
pub record HoldsWorldsForTwo (a b : ℕ) (out : List ℕ) (first : FiveRead) (second : Book) (given now : Given) :
    Type 0 where
  pub agree : AgreeForTwo a b first.book second
  pub second_words : FiveWords
  pub pair : AreOnePair a b first.book first.words second second_words
  pub held : HoldsSame out (joint_transcript a b first.book first.words) (joint_transcript a b second second_words)
      (words_bytes second_words) ((cleared_by_five first).text ++ equal_text) given now

-- three transcripts are of one run; how it ended was said, and no file is another
pub record HoldsOneRun (read : ReadViews) (given now : Given) : Type 0 where
  pub one_run : OneRun read.grid read.views
  pub files : now.files ≡ given.files
  pub said : now.said ≡ given.said ++ (run_answer read).text

-- a value was read by a step, and the desk holds this of it
pub record HoldsRead {A : Type 0} (step : Step A) (holds : A → Given → Given → Type 0) (old now : Told)
    (given given_now : Given) : Type 0 where
  pub value : A
  pub read : IsRead old now step value
  pub held : holds value given given_now

-- a run has left that, if the desk tells what it was given
abbrev pub LeavesRead : {A : Type 0} → Step A → (A → Given → Given → Type 0) → Told → Told →
    Option Given → Option Given → Type 0
LeavesRead step holds old now None given_now = Unit {0}
LeavesRead step holds old now (Some given) given_now =
    IsSomeAnd given_now (λ after. HoldsRead step holds old now given after)

-- a run of the job has left that: of two books that were read both worlds, for one server of three or for two of five;
-- of transcripts, that they are of one run
abbrev pub Shows : Option Job → Told → Told → Option Given → Option Given → Type 0
Shows None old now given given_now = Unit {0}
Shows (Some (Answering errand)) old now given given_now = Unit {0}
Shows (Some (Comparing auction servers first second s out)) old now given given_now =
    LeavesRead (both_errand auction servers first second) (λ both before after. HoldsBoth s out both before after)
    old now given given_now
Shows (Some (ComparingForTwo auction servers first second two out)) old now given given_now =
    LeavesRead (both_of_five auction servers first second)
    (λ both before after. HoldsWorldsForTwo two.0 two.1 out both.first (second_of_five both) before after)
    old now given given_now
Shows (Some (Auditing auction one two three)) old now given given_now =
    LeavesRead (read_errand auction one two three) (λ read before after. HoldsOneRun read before after)
    old now given given_now
