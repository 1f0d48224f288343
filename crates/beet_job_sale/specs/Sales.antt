-- The job `sale`: who wins a sale, for how much, and the rounds in which three servers find it.
use Rattle.std.specs.Prelude.{ℕ, List}
use Rattle.beet_errand.specs.Errands.{Answer, Errand, Ends, Step, gives, ◌>>=◌}
use Rattle.beet_sale_load.specs.SaleLoading.{sale_errand as read_errand}
use Rattle.beet_job_sale.specs.SaleAnswers.{sold}

-- the whole job
abbrev pub sale_job : List ℕ → List ℕ → Step Answer
sale_job sale servers = do
  read ← read_errand sale servers
  gives (sold read)

-- what it does outside
abbrev pub sale_errand : List ℕ → List ℕ → Errand
sale_errand sale servers = sale_job sale servers Ends
