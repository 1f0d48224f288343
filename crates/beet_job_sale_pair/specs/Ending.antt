-- How the job `pair` ends.
use Rattle.std.specs.Prelude.{◌≡◌, ℕ, List, Option, Result}
use Rattle.beet_field.specs.declared.point.Point.{Point}
use Rattle.beet_sale_file.specs.Sales.{SaleRecord, bids_of}
use Rattle.beet_sale_map.specs.declared.agreeing.SaleFault.{SaleFault}
use Rattle.beet_sale_map.specs.declared.agreeing.SaleFault.TheVariants.{OutOfMemory as MemoryOut}
use Rattle.beet_errand.specs.Errands.{Answer, Step}
use Rattle.beet_errand.specs.Fetches.{Refuses}
use Rattle.beet_errand.specs.Tasks.{Shows, ShowsRead, Task, ToShow}
use Rattle.beet_errand.specs.declared.answer.OwnRefusal.TheVariants.{OfWorlds}
use Rattle.beet_errand.specs.declared.answer.Refusal.TheVariants.{Own}
use Rattle.beet_errand.specs.declared.answer.Stop.{Stop}
use Rattle.beet_errand.specs.declared.answer.Stop.TheVariants.{OutOfMemory}
use Rattle.beet_differences.specs.Comparing.{AnswersBoth, compared}
use Rattle.beet_sale_load.specs.SaleLoading.{SaleRead}
use Rattle.beet_job_sale_pair.specs.Differences.{difference_between, refused_text}
use Rattle.beet_job_sale_pair.specs.Reading.{Both, both_errand}
use Rattle.beet_job_sale_pair.specs.Answering.{ShowsTheSameSale}

-- the difference between two sales that are read
abbrev pub difference_read : Point → Both → Option SaleFault
difference_read s both = difference_between s (bids_of both.first.sale.rows) (bids_of both.second.rows)

-- both sales are read, and they are refused if one server can tell them apart
abbrev pub compared_errand : List ℕ → List ℕ → List ℕ → Point → Step Both
compared_errand sale1 sale2 servers s = compared refused_text (difference_read s) (both_errand sale1 sale2 servers)

-- an answer shows that two sales that are read look the same to the server
abbrev pub ShowsBoth : Point → List ℕ → Both → Answer → Type 0
ShowsBoth s out both = ShowsTheSameSale s out both.first both.second

-- both sales are read, and the answer shows that they look the same to the server
abbrev pub ShowsPair : List ℕ → List ℕ → List ℕ → Point → List ℕ → Shows
ShowsPair sale1 sale2 servers s out = ShowsRead (both_errand sale1 sale2 servers) (ShowsBoth s out)

-- the job compares both sales, and its answer shows that
abbrev pub pair_task : List ℕ → List ℕ → List ℕ → Point → List ℕ → Task
pair_task sale1 sale2 servers s out =
    ToShow OfWorlds (compared_errand sale1 sale2 servers s) (ShowsPair sale1 sale2 servers s out)

-- two sales are refused by the line of the fault, unless memory ran out
abbrev pub TellsRefusal : SaleFault → Stop → Type 0
TellsRefusal MemoryOut stop = stop ≡ OutOfMemory
TellsRefusal fault stop = Refuses (Own OfWorlds) (refused_text fault) stop

-- the answer for two sales that look the same; or their refusal
abbrev pub AnswersSales : Point → List ℕ → SaleRead → SaleRecord → Result Answer Stop → Type 0
AnswersSales s out first second =
    AnswersBoth refused_text (difference_between s (bids_of first.sale.rows) (bids_of second.rows))
    (ShowsTheSameSale s out first second)
