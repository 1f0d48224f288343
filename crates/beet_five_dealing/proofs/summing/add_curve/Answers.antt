use Rattle.std.proofs.Common.{rules}
use Rattle.beet_five_dealing.proofs.FiveSums.{curve-added}
use Rattle.beet_five_dealing.proofs.summing.add_curve.Goals as goal

pub returns : goal.returns
returns g c =
    curve-added g.row.AT c.args.sums.now c.args.numbers.now c.args.curve.now c.add_shares.new.sums c.add_shares-2.new.sums
    c.bought-prices.result.now c.requires.sums c.requires.numbers
    c.bought-prices.ensures.quantities (search rules) (search rules)
