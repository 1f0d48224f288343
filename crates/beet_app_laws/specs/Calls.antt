-- A call of `run`: what its shelf and its desk told, and its exit status.
use Rattle.std.specs.Prelude.{ℕ, List, Option, Ok}
use Rattle.beet_store.specs.Files.{File, Told}
use Rattle.beet_store.specs.Desks.{DeskTold}
use Rattle.beet_errand.specs.Overs.{FromFiles}
use Rattle.beet_errand.specs.Runs.{GivesAll, Said}
use Rattle.beet_errand.specs.Statuses.{IsDoneCode}
use Rattle.beet_errand.specs.Tasks.{RunsTask}
use Rattle.beet_app.specs.Doing.{task_of}
use Rattle.beet_app.specs.Jobs.{Job, job_of}

-- what the shelf and the desk told before and after a call, and its exit status
pub record Call : Type 0 where
  pub shelf : Told
  pub shelf_now : Told
  pub desk : DeskTold
  pub desk_now : DeskTold
  pub status : ℕ

-- the call ran this job, as the clause `runs` of `run` says
abbrev pub RunsJob : Option Job → Call → Type 0
RunsJob job call = RunsTask (task_of job) call.shelf call.shelf_now call.desk call.desk_now call.status

-- the call ran the job that these words name
abbrev pub RunsJobOf : List (List ℕ) → Call → Type 0
RunsJobOf words call = RunsJob (job_of words) call

-- what the shelf answered in the call is of these files
abbrev pub IsOf : List File → Call → Type 0
IsOf files call = FromFiles files call.shelf call.shelf_now

-- the desk was given these files, in order, then this text, and nothing else
abbrev pub Puts : Call → List File → List ℕ → Type 0
Puts call files text = GivesAll call.desk call.desk_now files text (Ok tt)

-- the desk was given this text, and nothing else
abbrev pub Says : Call → List ℕ → Type 0
Says call text = Said call.desk call.desk_now text

-- the call ran these words over these files, and ended with status 0 or 6
pub record IsDoneCall (files : List File) (words : List (List ℕ)) (call : Call) : Type 0 where
  pub from : IsOf files call
  pub runs : RunsJobOf words call
  pub code : IsDoneCode call.status
