use Rattle.beet_sale_run.proofs.ResultFacts.{sells-so}
use Rattle.beet_sale_run.proofs.laws.bids_sell_so.Goals as goal

pub returns : goal.returns
returns c = sells-so
