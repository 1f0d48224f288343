use Rattle.beet_job_trial.proofs.Bidders.{deals-added, no-memory, part-stops}
use Rattle.beet_job_trial.proofs.adding.deal_in_order.Goals as goal

pub returns-in_err-totals : goal.returns-in_err-totals
returns-in_err-totals c = part-stops c.args.grid.now c.args.from c.args.count _ c.from_residual.ensures.1 no-memory

pub returns-in_err-add_in_order : goal.returns-in_err-add_in_order
returns-in_err-add_in_order c =
    part-stops c.args.grid.now c.args.from c.args.count _ c.from_residual-in_err-add_in_order.ensures.1
    c.in_err-add_in_order.ensures.tests

pub returns : goal.returns
returns c = deals-added c.args.grid.now c.args.from c.args.count _ _ c.in_ok-totals.ensures c.in_ok-add_in_order.ensures
