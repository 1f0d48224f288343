use Rattle.beet_book.proofs.PointsAdded.{added-none}
use Rattle.beet_audit.proofs.PartFacts.{judges-fault}
use Rattle.beet_audit.proofs.bidders.sum_in_order.Goals as goal

pub add_in_order-requires-clause-none : goal.add_in_order-requires-clause-none
add_in_order-requires-clause-none c = added-none c.args.grid.now c.in_ok-totals.totals c.in_ok-totals.ensures

pub returns-in_err-add_in_order : goal.returns-in_err-add_in_order
returns-in_err-add_in_order c =
    judges-fault c.args.grid.now c.args.views.now c.args.from c.args.count _ _ c.from_residual-in_err-add_in_order.ensures.1
    c.in_err-add_in_order.ensures.bidders
