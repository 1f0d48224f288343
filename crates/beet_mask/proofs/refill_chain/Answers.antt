use Rattle.std.proofs.Common.{arith, rules, ◌≤◌}
use Rattle.beet_mask.proofs.MaskTable.{chain-next, chain-last, chain-past}
use Rattle.beet_mask.proofs.refill_chain.Goals as goal

pub returns-in-60 : goal.returns-in-60
returns-in-60 c = rw (c.in-60.is, chain-last c.args.batch.now.lets.items c.args.bits) (search rules)

pub returns-in-1-to-59 : goal.returns-in-1-to-59
returns-in-1-to-59 c =
    let low : 1 ≤ c.args.step = omega arith in
    let high : c.args.step ≤ 59 = omega arith in
    rw (chain-next c.args.batch.now.lets.items c.args.bits c.args.step low high) (search rules)

pub returns-in_default : goal.returns-in_default
returns-in_default c = let past : 61 ≤ c.args.step = omega arith in
    rw (chain-past c.args.batch.now.lets.items c.args.bits c.args.step past) (search rules)
