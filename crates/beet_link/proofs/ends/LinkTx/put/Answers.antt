use Rattle.std.proofs.Common.{sym, subst, ap}
use Rattle.crossbeam_queue.specs.Passes.{view}
use Rattle.beet_field.specs.Trio.{member}
use Rattle.beet_field.specs.declared.point.Point.TheVariants.{One}
use Rattle.beet_round.specs.declared.message.RoundMessage.{RoundMessage}
use Rattle.beet_queue.proofs.Keeps.{has_room, never_full, puts}
use Rattle.beet_link.specs.Ends.{LinkEnd, IsNext}
use Rattle.beet_link.proofs.ends.LinkTx.put.Goals as goal

pub push_as-requires-clause-rule : goal.push_as-requires-clause-rule
push_as-requires-clause-rule g c =
    let P : LinkEnd × RoundMessage → Type 0 = λ y. IsNext y.0 y.1 in (
      puts _ _ _ (view c.self.inside.pass) _ (ap (λ p. member p One) c.self.invariant.1)
          (subst P (λ i. (sym c.self.view_is i, c.args.message.value)) c.requires),
      has_room _ _ _,
    )

pub unreachable-requires : goal.unreachable-requires
unreachable-requires g c =
    let P : LinkEnd → Type 0 = λ e. IsNext e c.args.message.value in
    never_full (view c.self.inside.pass) One c.args.message.value _ (ap (λ p. member p One) c.self.invariant.1)
    (subst P (sym c.self.view_is) c.requires)
    c.self.invariant.2 (rw c.deref.ensures at c.in-Err.ensures.rule.2)
