use Rattle.std.proofs.Common.{arith, ap, length}
use Rattle.std.proofs.lemmas.Grind.{common_steps}
use Rattle.beet_book.proofs.Sums.{added-values}
use Rattle.beet_book.proofs.summing.Totals.add_points.Goals as goal

pub returns-clause-values : goal.returns-clause-values
returns-clause-values c =
    added-values c.args.self.now.points _ _ _ _ (grind (arith, common_steps)) (grind (arith, common_steps)) (grind (arith, common_steps))

pub add_each-requires : goal.add_each-requires
add_each-requires c =
    omega (arith, c.requires.one, ap length c.deref_mut.ensures.value, c.self.invariant.0.one, ap (λ t. t.prices) c.self.view_is)

pub add_each-requires-2 : goal.add_each-requires-2
add_each-requires-2 c =
    omega (arith, c.requires.two, ap length c.deref_mut-2.ensures.value, c.self.invariant.0.two, ap (λ t. t.prices) c.self.view_is)

pub add_each-requires-3 : goal.add_each-requires-3
add_each-requires-3 c =
    omega (arith, c.requires.three, ap length c.deref_mut-3.ensures.value, c.self.invariant.0.three, ap (λ t. t.prices) c.self.view_is)
