use Rattle.std.proofs.Common.{arith}
use Rattle.beet_book.proofs.Direct.{sums-folded}
use Rattle.beet_book.proofs.summing.add_lines.Goals as goal

pub returns : goal.returns
returns g c =
    let inv = c.loop-i.invariant in
    sums-folded g.row.AT c.args.sums.now c.args.values.now c.args.slopes.now c.loop-i.sums c.requires.values
    c.requires.slopes inv.same_length
    (λ k h. inv.before k (omega arith))
