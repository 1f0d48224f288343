-- The jobs of a program that has the command `pair` besides commands of its own.
use Rattle.std.specs.Prelude.{ℕ, List, Option, Some, None, option_map}
use Rattle.beet_field.specs.declared.point.Point.{Point}
use Rattle.beet_command.specs.Lines.{Words, WithFive, words_in}
use Rattle.beet_errand.specs.Errands.{Errand}
use Rattle.beet_errand.specs.Tasks.{Task, NoTask, ToAnswer}
use Rattle.beet_pair_words.specs.Pairs.{pair_of}

-- a job: it has an errand, which ends with its answer; or it compares two files, for the servers of a file, at one of
-- them, with the words of the second as they are mapped
pub data Job : Type 0 where
  Answering : Errand → Job
  Comparing : List ℕ → List ℕ → List ℕ → Point → List ℕ → Job

-- the job that the words name, if a program has this table of the errands of its own commands, of which none has
-- five words
abbrev pub job_in : (Words → Option Errand) → Words → Option Job
job_in own (WithFive command first second servers server out) =
    pair_of Comparing command first second servers server out
job_in own words = option_map Answering (own words)

abbrev pub job_of : (Words → Option Errand) → List (List ℕ) → Option Job
job_of own words = job_in own (words_in words)

-- the task of the job that words name, if a program has this one for two files that it compares
abbrev pub task_of : (List ℕ → List ℕ → List ℕ → Point → List ℕ → Task) → Option Job → Task
task_of comparing None = NoTask
task_of comparing (Some (Answering errand)) = ToAnswer errand
task_of comparing (Some (Comparing first second servers s out)) = comparing first second servers s out
