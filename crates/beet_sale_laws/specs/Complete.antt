-- What is right for a job of the program of sales over these files.
use Rattle.std.specs.Prelude.{◌≡◌, ◌⊎◌, ℕ, List, Some, false}
use Rattle.beet_field.specs.Point.{server_of}
use Rattle.beet_field.specs.declared.point.Point.{Point}
use Rattle.beet_store.specs.Files.{File}
use Rattle.beet_sale_map.specs.Bids.{Agree}
use Rattle.beet_errand.specs.Statuses.{IsDoneCode}
use Rattle.beet_sale_load.specs.SaleLoading.{SaleRead, sale_errand}
use Rattle.beet_job_sale_pair.specs.Reading.{both_errand}
use Rattle.beet_sale_app.specs.Doing.{task_of}
use Rattle.beet_sale_app.specs.Jobs.{job_of}
use Rattle.beet_app_laws.specs.Calls.{Call}
use Rattle.beet_app_laws.specs.Readings.{Read}
use Rattle.beet_completeness_laws.specs.WithoutFault.{RunsTableWithoutFault}
use Rattle.beet_sale_laws.specs.Commands.{bids_in, is_spent, second_bids}

-- a run of the program of sales in which the outside answers every call
abbrev pub RunsSaleWithoutFault : List File → List (List ℕ) → Call → Type 0
RunsSaleWithoutFault files words call = RunsTableWithoutFault job_of task_of files words call

-- the masks suffice for a sale that is read: of as many as it has selections, and the spare ones, no more are rejected
-- than are spare
abbrev pub MasksSufficeIn : SaleRead → Type 0
MasksSufficeIn read = is_spent read ≡ false

-- `sale`: a sale is read with the words of its servers and of its bidders, and the masks suffice
pub record CanHoldSale (files : List File) (sale servers : List ℕ) : Type 0 where
  pub read : Read files (sale_errand sale servers)
  pub masks : MasksSufficeIn read.value

-- `pair`: two sales with the same gates are read, with the words of the servers and of the bidders of the first, and
-- they agree for the server
pub record CanPair (files : List File) (sale1 sale2 servers server : List ℕ) : Type 0 where
  pub s : Point
  pub server_is : server_of server ≡ Some s
  pub both : Read files (both_errand sale1 sale2 servers)
  pub agree : Agree s (bids_in both.value.first) (second_bids both.value)

-- the job ended with status 0 or 6 and left what is due, or memory ran out
abbrev pub IsWholeOrShort : Type 0 → Call → Type 0
IsWholeOrShort left call = (IsDoneCode call.status × left) ⊎ (call.status ≡ 1)
