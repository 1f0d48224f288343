-- The status to which the files of a job lead, if every one of them is fetched.
use Rattle.std.specs.Prelude.{◌≡◌, ◌⊎◌, ℕ, List, [], Option, Some, None}
use Rattle.beet_store.specs.Files.{File}
use Rattle.beet_auction.specs.Endings.{book_finish}
use Rattle.beet_errand.specs.Errands.{answers}
use Rattle.beet_errand.specs.Overs.{ReadsTo, answer_over}
use Rattle.beet_errand.specs.Statuses.{code_of}
use Rattle.beet_errand.specs.declared.answer.Status.{Status}
use Rattle.beet_errand.specs.declared.answer.OwnRefusal.TheVariants.{OfAudit}
use Rattle.beet_errand.specs.declared.answer.Refusal.TheVariants.{Usage, Own}
use Rattle.beet_errand.specs.declared.answer.Status.TheVariants.{Refused}
use Rattle.beet_run.specs.Outcomes.{status_of}
use Rattle.beet_audit.specs.OneRuns.{OneRun}
use Rattle.beet_job_audit.specs.Ending.{run_answer}
use Rattle.beet_job_audit.specs.Reading.{read_errand}
use Rattle.beet_job_audit.specs.declared.reading.ReadViews.{ReadViews}
use Rattle.beet_five_run.specs.FiveOutcomes.{cleared_by_five}
use Rattle.beet_job_five_worlds.specs.Ending.{compared_errand as compared_for_two}
use Rattle.beet_job_five_worlds.specs.Reading.{BothOfFive}
use Rattle.beet_job_worlds.specs.Ending.{compared_errand}
use Rattle.beet_job_worlds.specs.Reading.{Both, first_book, words_read}
use Rattle.beet_app.specs.Jobs.{Job, Answering, Comparing, ComparingForTwo, Auditing}

-- how the run of the first book ends
abbrev pub status_of_first : Both → Status
status_of_first both = status_of (book_finish (first_book both) (words_read both).masks)

-- and how it ends among five servers
abbrev pub status_of_first_of_five : BothOfFive → Status
status_of_first_of_five both = (cleared_by_five both.first).status

-- three transcripts that are read lead to the end of their run if they are of one, and to their refusal if they are
-- not
abbrev pub IsDueOfViews : ReadViews → Status → Type 0
IsDueOfViews read due =
    (OneRun read.grid read.views × (due ≡ (run_answer read).status))
    ⊎ ((OneRun read.grid read.views → ⊥) × (due ≡ Refused (Own OfAudit)))

-- three transcripts lead to this status, whatever they are read as; or a file does before they are all read
pub record IsDueOfAudit (files : List File) (auction one two three : List ℕ) (due : Status) : Type 0 where
  pub read : due ≡ (answer_over files (read_errand auction one two three (λ read. answers due []))).status
  pub views : (read : ReadViews) → ReadsTo files (read_errand auction one two three) read → IsDueOfViews read due

-- the files lead a job to this status: that of the answer of its errand. If two books are read, it is that of the
-- first run if they agree for the server, or for the two of five, and that of their refusal if they do not
abbrev pub IsDue : List File → Option Job → Status → Type 0
IsDue files None due = due ≡ Refused Usage
IsDue files (Some (Answering errand)) due = due ≡ (answer_over files errand).status
IsDue files (Some (Comparing auction servers first second s out)) due =
    due ≡ (answer_over files
    (compared_errand auction servers first second s (λ both. answers (status_of_first both) []))).status
IsDue files (Some (ComparingForTwo auction servers first second two out)) due =
    due ≡ (answer_over files (compared_for_two auction servers first second two.0 two.1
    (λ both. answers (status_of_first_of_five both) []))).status
IsDue files (Some (Auditing auction one two three)) due = IsDueOfAudit files auction one two three due

-- a run ends with the status that is due, unless memory ran out, a file could not be fetched or a call of the desk
-- failed
abbrev pub EndsAsDue : Status → ℕ → Type 0
EndsAsDue due status = (status ≡ code_of due) ⊎ (status ≡ 1) ⊎ (status ≡ 3) ⊎ (status ≡ 4)
