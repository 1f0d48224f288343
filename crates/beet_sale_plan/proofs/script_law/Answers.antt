use Rattle.beet_sale_plan.proofs.SaleStands.{sale-law}
use Rattle.beet_sale_plan.proofs.script_law.Goals as goal

pub returns : goal.returns
returns c = sale-law
