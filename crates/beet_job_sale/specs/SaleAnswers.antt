-- The answer that tells how a sale ended.
use Rattle.std.specs.Prelude.{ℕ, List}
use Rattle.beet_errand.specs.Errands.{Answer, text_answer}
use Rattle.beet_errand.specs.declared.answer.Status.{Status}
use Rattle.beet_errand.specs.declared.answer.Status.TheVariants.{Done, MasksSpent as Spent}
use Rattle.beet_sale_file.specs.declared.rows.SaleRow.{SaleRow}
use Rattle.beet_sale_plan.specs.declared.SaleEnd.{SaleEnd}
use Rattle.beet_sale_plan.specs.declared.SaleEnd.TheVariants.{Sold, MasksSpent}
use Rattle.beet_sale_load.specs.SaleLoading.{SaleRead}
use Rattle.beet_sale_run.specs.SaleRuns.{finish_read, rounds_read}
use Rattle.beet_job_sale.specs.SaleTexts.{sale_text}

-- the status of a sale that ends so
abbrev pub status_of : SaleEnd → Status
status_of (Sold winner price) = Done
status_of MasksSpent = Spent

-- the answer that tells an end and a number of rounds
abbrev pub end_answer : List SaleRow → SaleEnd → ℕ → Answer
end_answer rows end rounds = text_answer (status_of end) (sale_text rows end rounds)

-- the answer for a sale that is read: who wins it, for how much, and after how many rounds among three servers
abbrev pub sold : SaleRead → Answer
sold read = end_answer read.sale.rows (finish_read read) (rounds_read read)
