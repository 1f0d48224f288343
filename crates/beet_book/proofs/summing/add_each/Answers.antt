use Rattle.std.proofs.Common.{arith}
use Rattle.beet_book.proofs.Sums.{sums-by_item}
use Rattle.beet_book.proofs.summing.add_each.Goals as goal

pub returns : goal.returns
returns c =
    let inv = c.loop-i.invariant in
    sums-by_item c.args.sums.now c.args.points.now c.loop-i.sums c.requires inv.same_length (λ k lt. inv.before k (omega arith))
