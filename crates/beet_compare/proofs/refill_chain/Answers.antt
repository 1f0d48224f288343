use Rattle.std.proofs.Common.{arith, rules, ◌+◌, ◌-◌, ◌≤◌, ◌≡◌, ◌*◌}
use Rattle.beet_compare.proofs.CompareTable.{chain-bit, chain-last, chain-answer, chain-past}
use Rattle.beet_compare.proofs.refill_chain.Goals as goal

pub returns-in-60 : goal.returns-in-60
returns-in-60 c = rw (c.in-60.is, chain-last c.args.first c.args.mask c.args.c) (search rules)

pub returns-in-61 : goal.returns-in-61
returns-in-61 c = rw (c.in-61.is, chain-answer c.args.first c.args.mask c.args.c) (search rules)

pub returns-in-1-to-59 : goal.returns-in-1-to-59
returns-in-1-to-59 c =
    let low : 1 ≤ c.args.step = omega arith in
    let high : c.args.step ≤ 59 = omega arith in
    let place : c.args.first + 65 + 3 * (c.args.step - 1) ≡ c.args.first + 64 + 3 * (c.args.step - 1) + 1 = omega arith in
    rw (chain-bit c.args.first c.args.mask c.args.c c.args.step low high, place) (search rules)

pub returns-in_default : goal.returns-in_default
returns-in_default c =
    let past : 62 ≤ c.args.step = omega arith in
    rw (chain-past c.args.first c.args.mask c.args.c c.args.step past) (search rules)
