-- The task of each job.
use Rattle.std.specs.Prelude.{Option, Some, None}
use Rattle.beet_errand.specs.Tasks.{Task, NoTask, ToAnswer}
use Rattle.beet_job_worlds.specs.Ending.{worlds_task}
use Rattle.beet_job_five_worlds.specs.Ending.{five_worlds_task}
use Rattle.beet_job_audit.specs.Ending.{audit_task}
use Rattle.beet_app.specs.Jobs.{Job, Answering, Comparing, ComparingForTwo, Auditing}

-- the task of the job that words name
abbrev pub task_of : Option Job → Task
task_of None = NoTask
task_of (Some (Answering errand)) = ToAnswer errand
task_of (Some (Comparing auction servers first second s out)) = worlds_task auction servers first second s out
task_of (Some (ComparingForTwo auction servers first second two out)) =
    five_worlds_task auction servers first second two.0 two.1 out
task_of (Some (Auditing auction one two three)) = audit_task auction one two three
