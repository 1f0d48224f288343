use Rattle.std.proofs.Common.{rules, inl, inr, ap, sym, subst, ◌∙◌}
use Rattle.beet_desk.specs.Ends.{AreFrom}
use Rattle.beet_field.specs.Trio.{member}
use Rattle.beet_field.specs.declared.point.Point.TheVariants.{One, Two, Three}
use Rattle.beet_queue.proofs.Keeps.{begins, divides}
use Rattle.beet_desk.proofs.making.open.Goals as goal

pub ruled-requires-clause-rule : goal.ruled-requires-clause-rule
ruled-requires-clause-rule g c = begins _

pub another-one-requires-clause-rule : goal.another-one-requires-clause-rule
another-one-requires-clause-rule g c =
    let first = c.in_ok-queue.ensures.3 in
    divides _ _ _ One g.K.Named.streams (ap (λ u. member u.puts One) first) (inl first)

pub another-two-requires-clause-rule : goal.another-two-requires-clause-rule
another-two-requires-clause-rule g c =
    let first = c.in_ok-queue.ensures.3 in
    let one = c.another-one.ensures.rule.0 in
    divides _ _ _ Two g.K.Named.streams (ap (λ u. member u.puts Two) one ∙ ap (λ u. member u.puts Two) first)
    (inr (ap (λ u. u.streams) one))

pub another-three-requires-clause-rule : goal.another-three-requires-clause-rule
another-three-requires-clause-rule g c =
    let first = c.in_ok-queue.ensures.3 in
    let one = c.another-one.ensures.rule.0 in
    let two = c.another-two.ensures.rule.0 in
    divides _ _ _ Three g.K.Named.streams (ap (λ u. member u.puts Three) two ∙ ap (λ u. member u.puts Three) one
    ∙ ap (λ u. member u.puts Three) first)
    (inr (ap (λ u. u.streams) two))

pub invariant_of-senders : goal.invariant_of-senders
invariant_of-senders g c = (
  search rules,
  search rules,
  search rules,
  subst (λ v. AreFrom One (member v.streams One)) (sym c.another-one.ensures.rule.1) (c.requires.named One),
)

pub invariant_of-senders-2 : goal.invariant_of-senders-2
invariant_of-senders-2 g c = (
  search rules,
  search rules,
  search rules,
  subst (λ v. AreFrom Two (member v.streams Two)) (sym c.another-two.ensures.rule.1) (c.requires.named Two),
)

pub invariant_of-senders-3 : goal.invariant_of-senders-3
invariant_of-senders-3 g c = (
  search rules,
  search rules,
  search rules,
  subst (λ v. AreFrom Three (member v.streams Three)) (sym c.another-three.ensures.rule.1) (c.requires.named Three),
)
