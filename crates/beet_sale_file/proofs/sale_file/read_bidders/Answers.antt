use Rattle.beet_sale_file.proofs.SaleBids.{bids-within}
use Rattle.beet_sale_file.proofs.sale_file.read_bidders.Goals as goal

pub returns-clause-bids : goal.returns-clause-bids
returns-clause-bids c = bids-within _ _ c.args.rows.now c.in_ok-bidders.bidders.items c.in_ok-bidders.ensures.reads
