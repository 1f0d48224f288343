use Rattle.std.proofs.Common.{arith, ap, length}
use Rattle.beet_book.proofs.summing.add_curve_to_each.Goals as goal

pub add_curve-requires-clause-sums : goal.add_curve-requires-clause-sums
add_curve-requires-clause-sums c = omega (arith, c.requires.sums.one, ap length c.deref_mut.ensures.value)

pub add_curve-requires-clause-slopes : goal.add_curve-requires-clause-slopes
add_curve-requires-clause-slopes c = omega (arith, c.requires.slopes, c.requires.sums.one, ap length c.deref_mut.ensures.value)

pub add_curve-requires-2-clause-sums : goal.add_curve-requires-2-clause-sums
add_curve-requires-2-clause-sums c = omega (arith, c.requires.sums.two, ap length c.deref_mut-2.ensures.value)

pub add_curve-requires-2-clause-slopes : goal.add_curve-requires-2-clause-slopes
add_curve-requires-2-clause-slopes c = omega (arith, c.requires.slopes, c.requires.sums.two, ap length c.deref_mut-2.ensures.value)

pub add_curve-requires-3-clause-sums : goal.add_curve-requires-3-clause-sums
add_curve-requires-3-clause-sums c = omega (arith, c.requires.sums.three, ap length c.deref_mut-3.ensures.value)

pub add_curve-requires-3-clause-slopes : goal.add_curve-requires-3-clause-slopes
add_curve-requires-3-clause-slopes c = omega (arith, c.requires.slopes, c.requires.sums.three, ap length c.deref_mut-3.ensures.value)
