-- What is read for two sales: a sale with its words, and a second one without words.
use Rattle.std.specs.Prelude.{ℕ, List, Bool, true, false, if◌then◌else◌, Ok, Err}
use Rattle.beet_forms.specs.Faults.{Reading, at_row}
use Rattle.beet_gates.specs.declared.Gates.{Gates}
use Rattle.beet_gates.specs.declared.Gates.TheVariants.{Chain, Tree}
use Rattle.beet_sale_file.specs.SaleFiles.{sale_of}
use Rattle.beet_sale_file.specs.Sales.{SaleRecord}
use Rattle.beet_sale_file.specs.declared.sale_file.TheConstants.{SALE_LIMIT}
use Rattle.beet_errand.specs.Errands.{Step, gives, reads, ◌>>=◌}
use Rattle.beet_sale_load.specs.SaleLoading.{SaleRead, sale_errand}
use Rattle.beet_job_sale_pair.specs.declared.reading.TheConstants.{OTHER_GATES}

-- the first sale, and the second
pub record Both : Type 0 where
  pub first : SaleRead
  pub second : SaleRecord

-- whether two kinds of gates are one
abbrev pub same_gates : Gates → Gates → Bool
same_gates Chain Chain = true
same_gates Tree Tree = true
same_gates _ _ = false

-- a sale that is to have these gates
abbrev pub with_gates : Gates → Reading SaleRecord → Reading SaleRecord
with_gates gates (Ok sale) = if same_gates gates sale.gates then Ok sale else Err (at_row 2 OTHER_GATES)
with_gates gates (Err fault) = Err fault

-- the second sale, which has the gates of the first
abbrev pub second_errand : List ℕ → Gates → Step SaleRecord
second_errand name gates = reads name SALE_LIMIT (λ bytes. with_gates gates (sale_of bytes))

-- the first sale, its servers and its words come first, and then the second sale
unfoldable pub both_errand : List ℕ → List ℕ → List ℕ → Step Both
both_errand sale1 sale2 servers = do
  first ← sale_errand sale1 servers
  second ← second_errand sale2 first.sale.gates
  gives (record { first = first; second = second })
