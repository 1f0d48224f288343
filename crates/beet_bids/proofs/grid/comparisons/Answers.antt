use Rattle.std.proofs.Common.{arith}
use Rattle.beet_bids.proofs.GridFacts.{leading, below_comparisons, comparisons-le, few_comparisons}
use Rattle.beet_bids.proofs.grid.comparisons.Goals as goal

pub returns-clause-value : goal.returns-clause-value
returns-clause-value c = leading c.args.prices (omega arith)

pub returns-clause-enough : goal.returns-clause-enough
returns-clause-enough c = rw (leading c.args.prices (omega arith)) (below_comparisons c.args.prices)

pub returns-clause-least : goal.returns-clause-least
returns-clause-least c = rw (leading c.args.prices (omega arith)) (comparisons-le c.args.prices)

pub returns-clause-few : goal.returns-clause-few
returns-clause-few c = rw (leading c.args.prices (omega arith)) (few_comparisons c.args.prices)
