use Rattle.std.proofs.Common.{sym, ◌∙◌}
use Rattle.beet_job_tally.proofs.Tallying.{one-passes, others-stop}
use Rattle.beet_job_tally.proofs.check_one_price.Goals as goal

pub returns-then-prices-ne1-clause-tests : goal.returns-then-prices-ne1-clause-tests
returns-then-prices-ne1-clause-tests c = others-stop c.args.auction.now c.args.grid.now _
    (rw c.prices.ensures.value at c.if-prices-ne1.true) c.refuse.ensures

pub returns-clause-tests : goal.returns-clause-tests
returns-clause-tests c = one-passes c.args.auction.now c.args.grid.now (sym c.prices.ensures.value ∙ c.if-prices-ne1.false)
