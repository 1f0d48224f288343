use Rattle.beet_job_trial.proofs.Curves.{made}
use Rattle.beet_job_trial.proofs.rules.curve_of.Goals as goal

pub unreachable-requires : goal.unreachable-requires
unreachable-requires c =
    c.in-None.ensures (made c.args.grid.now c.args.i _ _ _ _ _ c.prices-prices.ensures.value c.weights_of-buying.ensures.buying
    c.weights_of-buying.ensures.selling c.in_ok-buy.ensures c.in_ok-sell.ensures c.prices-prices.ensures.limits.prices_limit)
