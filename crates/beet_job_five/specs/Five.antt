-- The job `five`: the outcome of a book, and the rounds in which five servers find it.
use Rattle.std.specs.Prelude.{ℕ, List}
use Rattle.beet_errand.specs.Errands.{Answer, Errand, Ends, Step, gives, ◌>>=◌}
use Rattle.beet_five_load.specs.FiveLoading.{five_loaded_errand}
use Rattle.beet_five_run.specs.FiveOutcomes.{cleared_by_five}

-- the whole job
abbrev pub five_job : List ℕ → List ℕ → List ℕ → Step Answer
five_job auction servers book = do
  read ← five_loaded_errand auction servers book
  gives (cleared_by_five read)

-- what it does outside
abbrev pub five_errand : List ℕ → List ℕ → List ℕ → Errand
five_errand auction servers book = five_job auction servers book Ends
