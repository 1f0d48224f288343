use Rattle.beet_highbid.proofs.SaleRows.{are-sale-bids}
use Rattle.beet_sale_run.proofs.running.deal_bids.Goals as goal

pub input_lines-requires-clause-bids : goal.input_lines-requires-clause-bids
input_lines-requires-clause-bids c = rw c.bids.ensures.value (are-sale-bids _ c.bids.ensures.limits).limits
