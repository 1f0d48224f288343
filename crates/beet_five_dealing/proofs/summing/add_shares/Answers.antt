use Rattle.std.proofs.Common.{arith, ◌∙◌, ◌+◌, ◌*◌, get_or}
use Rattle.beet_five_dealing.proofs.FiveSums.{added-each, share-added}
use Rattle.beet_five_dealing.proofs.summing.add_shares.Goals as goal

pub returns : goal.returns
returns g c =
    let inv = c.loop-i.invariant in
    added-each g.row.AT c.args.values.now c.args.numbers.now c.args.sums.now c.loop-i.sums inv.same_length
    (λ k h.
    inv.before k (omega arith)
    ∙ share-added (get_or c.args.sums.now k 0) (get_or c.args.values.now k 0) (get_or c.args.numbers.now (2 * k) 0)
    (get_or c.args.numbers.now (2 * k + 1) 0) g.row.AT)
