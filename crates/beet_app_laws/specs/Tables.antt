-- A call of a program whose words name a job of a table.
use Rattle.std.specs.Prelude.{ℕ, List, Option}
use Rattle.beet_store.specs.Files.{File}
use Rattle.beet_errand.specs.Statuses.{IsDoneCode}
use Rattle.beet_errand.specs.Tasks.{RunsTask, Task}
use Rattle.beet_app_laws.specs.Calls.{Call, IsOf}

-- the call ran this job of a table, as the clause of a run says
abbrev pub RunsJobBy : {J : Type 0} → (Option J → Task) → Option J → Call → Type 0
RunsJobBy task_for job call =
    RunsTask (task_for job) call.shelf call.shelf_now call.desk call.desk_now call.status

-- the call ran the job that these words name, over these files
pub record RunsTable {J : Type 0} (job_named : List (List ℕ) → Option J) (task_for : Option J → Task)
    (files : List File) (words : List (List ℕ)) (call : Call) : Type 0 where
  pub from : IsOf files call
  pub runs : RunsJobBy task_for (job_named words) call

-- and ended with status 0 or 6
pub record IsDoneTable {J : Type 0} (job_named : List (List ℕ) → Option J) (task_for : Option J → Task)
    (files : List File) (words : List (List ℕ)) (call : Call) : Type 0 where
  pub ran : RunsTable job_named task_for files words call
  pub code : IsDoneCode call.status
