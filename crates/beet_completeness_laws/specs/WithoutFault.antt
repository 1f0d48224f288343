-- Runs of a program in which the outside answers every call.
use Rattle.std.specs.Prelude.{◌≡◌, ◌⊎◌, ℕ, List, Option, Some}
use Rattle.beet_store.specs.Causes.{Rose}
use Rattle.beet_store.specs.Files.{File}
use Rattle.beet_errand.specs.Tasks.{RunsTask, Task}
use Rattle.beet_app.specs.Doing.{task_of}
use Rattle.beet_app.specs.Jobs.{job_of}
use Rattle.beet_app_laws.specs.Calls.{Call, IsOf}

-- what the clause of a run says of a run on words that name a job of a table, for its task, over a shelf whose answers
-- are of these files; neither the count of faults of the shelf nor that of the desk rose
pub record RunsTableWithoutFault {J : Type 0} (job_named : List (List ℕ) → Option J) (task_for : Option J → Task)
    (files : List File) (words : List (List ℕ)) (call : Call) : Type 0 where
  pub job : J
  pub named : job_named words ≡ Some job
  pub from : IsOf files call
  pub runs : RunsTask (task_for (job_named words)) call.shelf call.shelf_now call.desk call.desk_now call.status
  pub shelf_faults : ℕ
  pub shelf_faults_now : ℕ
  pub read : call.status ≡ 3 → Rose shelf_faults shelf_faults_now
  pub shelf_rests : Rose shelf_faults shelf_faults_now → ⊥
  pub desk_faults : ℕ
  pub desk_faults_now : ℕ
  pub write : call.status ≡ 4 → Rose desk_faults desk_faults_now
  pub desk_rests : Rose desk_faults desk_faults_now → ⊥

-- so it is for the jobs of `run`
abbrev pub RunsWithoutFault : List File → List (List ℕ) → Call → Type 0
RunsWithoutFault files words call = RunsTableWithoutFault job_of task_of files words call

-- the job is done, or memory ran out
abbrev pub IsDoneOrShort : Call → Type 0
IsDoneOrShort call = (call.status ≡ 0) ⊎ (call.status ≡ 1)
