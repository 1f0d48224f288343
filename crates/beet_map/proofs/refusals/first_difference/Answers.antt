use Rattle.std.proofs.Common.{arith}
use Rattle.beet_map.proofs.Places.{same_all}
use Rattle.beet_map.proofs.refusals.first_difference.Goals as goal

pub returns-clause-none : goal.returns-clause-none
returns-clause-none c =
    same_all c.args.first.now c.args.second.now c.loop-place.place (omega arith) (omega arith) c.loop-place.invariant.before
