use Rattle.std.proofs.Common.{ap, inl}
use Rattle.beet_field.specs.Trio.{member}
use Rattle.beet_field.specs.declared.point.Point.TheVariants.{One}
use Rattle.beet_queue.proofs.Keeps.{begins, divides}
use Rattle.beet_link.proofs.making.open.Goals as goal

pub ruled-requires-clause-rule : goal.ruled-requires-clause-rule
ruled-requires-clause-rule g c = begins _

pub another-sender-requires-clause-rule : goal.another-sender-requires-clause-rule
another-sender-requires-clause-rule g c =
    let first = c.in_ok-queue.ensures.3 in
    divides _ _ _ One g.K.Named.streams (ap (λ u. member u.puts One) first) (inl first)
