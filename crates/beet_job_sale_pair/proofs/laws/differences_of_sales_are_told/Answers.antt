use Rattle.beet_job_sale_pair.proofs.DifferenceFacts.{no-difference, the-difference}
use Rattle.beet_job_sale_pair.proofs.laws.differences_of_sales_are_told.Goals as goal

pub returns-clause-none : goal.returns-clause-none
returns-clause-none c = no-difference

pub returns-clause-told : goal.returns-clause-told
returns-clause-told c = the-difference
