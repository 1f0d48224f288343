-- The job `clear`: the outcome of a book, and the rounds in which three servers find it.
use Rattle.std.specs.Prelude.{ℕ, List}
use Rattle.beet_errand.specs.Errands.{Answer, Errand, Ends, Step, gives, ◌>>=◌}
use Rattle.beet_load.specs.Loading.{loaded_errand}
use Rattle.beet_run.specs.Outcomes.{cleared}

-- the whole job
abbrev pub clear_job : List ℕ → List ℕ → List ℕ → Step Answer
clear_job auction servers book = do
  loaded ← loaded_errand auction servers book
  gives (cleared loaded)

-- what it does outside
abbrev pub clear_errand : List ℕ → List ℕ → List ℕ → Errand
clear_errand auction servers book = clear_job auction servers book Ends
