use Rattle.beet_highbid.proofs.SaleRows.{are-sale-bids}
use Rattle.beet_highbid.proofs.writing.write_sale_view.Goals as goal

pub input_lines-requires-clause-bids : goal.input_lines-requires-clause-bids
input_lines-requires-clause-bids c = rw c.bids.ensures.value (are-sale-bids c.args.sale.now c.bids.ensures.limits).limits
