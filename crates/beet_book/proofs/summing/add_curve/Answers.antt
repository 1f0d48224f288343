use Rattle.std.proofs.Common.{rules}
use Rattle.beet_book.proofs.Direct.{curve-added}
use Rattle.beet_book.proofs.summing.add_curve.Goals as goal

pub returns : goal.returns
returns g c =
    curve-added g.row.AT c.args.sums.now c.args.slopes.now c.args.curve.now c.add_lines.new.sums c.add_lines-2.new.sums
    c.bought-prices.result.now c.requires.sums c.requires.slopes
    c.bought-prices.ensures.quantities (search rules) (search rules)
