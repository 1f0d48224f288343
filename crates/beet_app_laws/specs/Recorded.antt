-- What a run has recorded of its shelf and its desk, whatever else these tell.
use Rattle.std.specs.Prelude.{◌≡◌, ◌⊎◌, ◌++◌, List, Option, Some, None}
use Rattle.beet_store.specs.Files.{Fetch}
use Rattle.beet_errand.specs.Errands.{Answer, Errand, Ends, Step, refuses}
use Rattle.beet_errand.specs.Fetches.{Leads}
use Rattle.beet_errand.specs.Records.{calls_of}
use Rattle.beet_errand.specs.Statuses.{code_of}
use Rattle.beet_errand.specs.Texts.{usage_text}
use Rattle.beet_errand.specs.declared.answer.Refusal.TheVariants.{Usage}
use Rattle.beet_job_worlds.specs.Answering.{ShowsTheSame}
use Rattle.beet_job_worlds.specs.Ending.{compared_errand}
use Rattle.beet_job_worlds.specs.Reading.{both_errand, first_book, second_book, words_read}
use Rattle.beet_job_five_worlds.specs.Answering.{ShowsTheSameForTwo}
use Rattle.beet_job_five_worlds.specs.Ending.{compared_errand as compared_for_two}
use Rattle.beet_job_five_worlds.specs.Reading.{both_errand as both_of_five, second_book as second_of_five}
use Rattle.beet_job_audit.specs.Ending.{TellsFinding}
use Rattle.beet_job_audit.specs.Reading.{read_errand}
use Rattle.beet_app.specs.Jobs.{Job, Answering, Comparing, ComparingForTwo, Auditing}
use Rattle.beet_app_laws.specs.Calls.{Call}

-- these fetches lead through a step to a value, whatever comes next, and the answer shows this of it
pub record LeadsToShow {A : Type 0} (step : Step A) (shows : A → Answer → Type 0)
    (fetches : List Fetch) (answer : Answer) : Type 0 where
  pub value : A
  pub leads : (next : A → Errand) → Leads fetches (step next) (next value)
  pub shown : shows value answer

-- these fetches lead a step to its own end, whatever would come next
abbrev pub LeadsToStop : {A : Type 0} → Step A → List Fetch → Answer → Type 0
LeadsToStop {A = A} step fetches answer = (next : A → Errand) → Leads fetches (step next) (Ends answer)

-- these fetches lead the job that words name to this answer, or to the usage line if they name none. A job that
-- compares two worlds or audits transcripts is led through all that it reads, and its answer shows what no errand
-- computes; or it is led to a refusal on the way
abbrev pub LeadsJob : Option Job → List Fetch → Answer → Type 0
LeadsJob None fetches answer = Leads fetches (refuses Usage usage_text) (Ends answer)
LeadsJob (Some (Answering errand)) fetches answer = Leads fetches errand (Ends answer)
LeadsJob (Some (Comparing auction servers book1 book2 s out)) fetches answer =
    LeadsToShow (both_errand auction servers book1 book2)
    (λ both answer. ShowsTheSame s out (first_book both) (words_read both) (second_book both) answer) fetches answer
    ⊎ LeadsToStop (compared_errand auction servers book1 book2 s) fetches answer
LeadsJob (Some (ComparingForTwo auction servers book1 book2 two out)) fetches answer =
    LeadsToShow (both_of_five auction servers book1 book2)
    (λ both answer. ShowsTheSameForTwo two.0 two.1 out both.first (second_of_five both) answer) fetches answer
    ⊎ LeadsToStop (compared_for_two auction servers book1 book2 two.0 two.1) fetches answer
LeadsJob (Some (Auditing auction one two three)) fetches answer =
    LeadsToShow (read_errand auction one two three) TellsFinding fetches answer
    ⊎ LeadsToStop (read_errand auction one two three) fetches answer

-- what the shelf was asked and answered leads to an answer, whose status is the exit status, and what the desk was
-- given is this answer: each of its files by one put, in order, its text by one say, and nothing else
pub record RecordsBy (leads_to : List Fetch → Answer → Type 0) (call : Call) : Type 0 where
  pub fetches : List Fetch
  pub recorded : call.shelf_now.fetches ≡ call.shelf.fetches ++ fetches
  pub answer : Answer
  pub leads : leads_to fetches answer
  pub code : call.status ≡ code_of answer.status
  pub calls : call.desk_now.calls ≡ call.desk.calls ++ calls_of answer.files answer.text

-- so it is of the job that words name
abbrev pub RecordsJob : Option Job → Call → Type 0
RecordsJob job call = RecordsBy (LeadsJob job) call
