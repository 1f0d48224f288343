-- The task of each job.
use Rattle.std.specs.Prelude.{Option}
use Rattle.beet_errand.specs.Tasks.{Task}
use Rattle.beet_job_session_pair.specs.Ending.{pair_task}
use Rattle.beet_pair_words.specs.Jobs.{Job, task_of as task_by}

-- the task of the job that words name
abbrev pub task_of : Option Job → Task
task_of job = task_by pair_task job
