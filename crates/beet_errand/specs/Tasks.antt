-- What a run of a program is to do: the task of the job that its words name, and what is said of the end of any run.
use Rattle.std.specs.Prelude.{◌≡◌, ◌≤◌, ◌⊎◌, ℕ, Option, Some, None, Result, Ok, Err}
use Rattle.beet_store.specs.Causes.{Rose}
use Rattle.beet_store.specs.Desks.{DeskSeen, DeskTold}
use Rattle.beet_store.specs.Files.{Seen, Told}
use Rattle.beet_errand.specs.Errands.{Answer, Errand, Ends, Step, refuses}
use Rattle.beet_errand.specs.Fetches.{CauseOf, Finishes, IsDone, IsRead, Refuses}
use Rattle.beet_errand.specs.Runs.{EndGoesOut, GivesAll, IsStatus, Runs, Said}
use Rattle.beet_errand.specs.Statuses.{code_of}
use Rattle.beet_errand.specs.Texts.{usage_text}
use Rattle.beet_errand.specs.declared.answer.OwnRefusal.{OwnRefusal}
use Rattle.beet_errand.specs.declared.answer.OwnRefusal.TheVariants.{OfWorlds, OfAudit}
use Rattle.beet_errand.specs.declared.answer.Refusal.TheVariants.{Usage}
use Rattle.beet_errand.specs.declared.answer.Status.{Status}
use Rattle.beet_errand.specs.declared.answer.Stop.{Stop}
use Rattle.beet_errand.specs.declared.answer.Stop.TheVariants.{Refused, OutOfMemory}

-- what an answer shows, of what was told before and after it was reached
abbrev pub Shows : Type 1
Shows = Told → Told → Answer → Type 0

-- a value was read by a step, and the answer shows this of it
pub record ShowsRead {A : Type 0} (step : Step A) (shows : A → Answer → Type 0)
    (old now : Told) (answer : Answer) : Type 0 where
  pub value : A
  pub read : IsRead old now step value
  pub shown : shows value answer

-- the task of words: they name no job; or a job with an errand, which ends with its answer; or one with a refusal of
-- its own, which reads by a step, and whose answer shows what no errand computes
pub data Task : Type 1 where
  NoTask : Task
  ToAnswer : Errand → Task
  ToShow : {A : Type 0} → OwnRefusal → Step A → Shows → Task

-- words name no job
abbrev pub IsNoTask : Task → Type 0
IsNoTask NoTask = Unit {0}
IsNoTask (ToAnswer errand) = ⊥
IsNoTask (ToShow own step shows) = ⊥

-- a task has this refusal of its own
abbrev pub MayRefuse : OwnRefusal → Task → Type 0
MayRefuse own NoTask = ⊥
MayRefuse own (ToAnswer errand) = ⊥
MayRefuse own (ToShow other step shows) = other ≡ own

-- what holds of the errand of a task, with what the shelf tells before it. Words that name no job are answered by the
-- usage line. For a task that shows, it holds of an answer that shows this much; or, if the job ends while it reads, of
-- the errand that reads, however it would go on
abbrev pub OfTask : Task → Told → Told → (Told → Errand → Type 0) → Type 0
OfTask NoTask old now P = P old (refuses Usage usage_text)
OfTask (ToAnswer errand) old now P = P old errand
OfTask (ToShow {A = A} own step shows) old now P =
    ((answer : Answer) × shows old now answer × P now (Ends answer)) ⊎ ((next : A → Errand) → P old (step next))

-- the errand of a task runs to this exit status
abbrev pub RunsTask : Task → Told → Told → DeskTold → DeskTold → ℕ → Type 0
RunsTask task told told_now desk desk_now status =
    OfTask task told told_now (λ before errand. Runs errand before told_now desk desk_now status)

-- the job of a task is done, or it is refused with a cause. The count of faults is as it was, unless a file cannot be
-- fetched
abbrev pub EndsFor : Task → ℕ → ℕ → Result Answer Stop → Type 0
EndsFor task before now (Ok answer) = IsDone answer.status × (now ≡ before)
EndsFor task before now (Err (Refused refusal line)) =
    CauseOf (IsNoTask task) (λ own. MayRefuse own task) before now refusal
EndsFor task before now (Err OutOfMemory) = now ≡ before

-- what an answer shows, if the task is one that shows
abbrev pub AnswerShows : Task → Told → Told → Result Answer Stop → Type 0
AnswerShows NoTask old now result = Unit {0}
AnswerShows (ToAnswer errand) old now result = Unit {0}
AnswerShows (ToShow own step shows) old now (Ok answer) = shows old now answer
AnswerShows (ToShow own step shows) old now (Err stop) = Unit {0}

-- the job of a task does what its errand says and no more: it has gone to its end, or it stops with a cause; if it
-- shows, its answer does
pub record DoesTask (task : Task) (old now : Seen) (result : Result Answer Stop) : Type 0 where
  pub finishes : OfTask task old.told now.told (λ told errand. Finishes told now.told errand result)
  pub ends : EndsFor task old.faults now.faults result
  pub shows : AnswerShows task old.told now.told result
  pub later : old.faults ≤ now.faults

-- the job that words name is done; or they name none, and nothing is done
abbrev pub DoesNamed : Task → Seen → Seen → Option (Result Answer Stop) → Type 0
DoesNamed task old now None = IsNoTask task × (now ≡ old)
DoesNamed task old now (Some result) = DoesTask task old now result

-- the result of the job that words name, or the usage line if they name none, unless memory ran out
abbrev pub OrUsage : Option (Result Answer Stop) → Result Answer Stop → Type 0
OrUsage (Some given) result = result ≡ given
OrUsage None (Ok answer) = ⊥
OrUsage None (Err stop) = Refuses Usage usage_text stop

-- the end of a run: the result of the job, or the usage line, goes out to the desk
pub record EndsRun (named : Option (Result Answer Stop)) (desk desk_now : DeskSeen) (status : ℕ) : Type 0 where
  pub result : Result Answer Stop
  pub is : OrUsage named result
  pub end : Status
  pub goes : EndGoesOut desk desk_now result end
  pub code : status ≡ code_of end

-- a task that shows has left that: an answer that shows, with all its files put, in order, and then its text said
abbrev pub LeavesShown : Task → Told → Told → DeskTold → DeskTold → Type 0
LeavesShown NoTask old now desk desk_now = Unit {0}
LeavesShown (ToAnswer errand) old now desk desk_now = Unit {0}
LeavesShown (ToShow own step shows) old now desk desk_now =
    (answer : Answer) × shows old now answer × IsDone answer.status
    × GivesAll desk desk_now answer.files answer.text (Ok tt)

-- a run of a program over a shelf and a desk, for the task of its words
pub record DoesRun (task : Task) (shelf shelf_now : Seen) (desk desk_now : DeskSeen) (status : ℕ) : Type 0 where
  -- the answer is one of the exit statuses
  pub known : IsStatus status
  -- the status of wrong words comes only if the words name no job
  pub usage : status ≡ 2 → IsNoTask task
  -- then exactly the usage line is said, and nothing is put
  pub usage_line : status ≡ 2 → Said desk.told desk_now.told usage_text
  -- if the words name no job no other status comes, unless memory ran out or the desk took no line
  pub no_job : IsNoTask task → (status ≡ 2) ⊎ (status ≡ 1) ⊎ (status ≡ 4)
  -- a file that cannot be fetched is told only if the shelf's count of faults rose
  pub read : status ≡ 3 → Rose shelf.faults shelf_now.faults
  -- a file or a text that is not taken is told only if the desk's count of faults rose
  pub write : status ≡ 4 → Rose desk.faults desk_now.faults
  -- and a fault of the desk is not passed over: at every other status its count is as it was
  pub desk_count : (status ≡ 4) ⊎ (desk_now.faults ≡ desk.faults)
  -- nor is a fault of the shelf: at every other status than these its count is as it was. At 1 and 4 the desk has found
  -- no memory for the line of a file that cannot be fetched, or has not taken it
  pub shelf_count : (status ≡ 1) ⊎ (status ≡ 3) ⊎ (status ≡ 4) ⊎ (shelf_now.faults ≡ shelf.faults)
  -- the count of faults of the shelf never falls
  pub shelf_faults : shelf.faults ≤ shelf_now.faults
  -- nor does that of the desk
  pub desk_faults : desk.faults ≤ desk_now.faults
  -- two worlds are refused only by a job that compares worlds
  pub worlds : status ≡ 7 → MayRefuse OfWorlds task
  -- transcripts are refused only by a job that audits them
  pub audit : status ≡ 8 → MayRefuse OfAudit task
  -- the files fetched, the files put, the text said and the status are those of the task
  pub runs : RunsTask task shelf.told shelf_now.told desk.told desk_now.told status
  -- a job that is done and shows has left its answer at the desk, whole
  pub shows : (status ≡ 0) ⊎ (status ≡ 6) → LeavesShown task shelf.told shelf_now.told desk.told desk_now.told
