-- What comes from a server itself and from its peers, by sender.
use Rattle.std.proofs.Common.{◌≡◌, ℕ, List}
use Rattle.beet_field.specs.declared.point.Point.{Point}
use Rattle.beet_field.specs.declared.point.Point.TheVariants.{One, Two, Three}
use Rattle.beet_round.specs.Sides.{peer, side_of}
use Rattle.beet_round.specs.declared.sides.Side.TheVariants.{Low, High}
use Rattle.beet_server.specs.Steps.{at_side}

-- what comes from a server itself and from its peers is by sender
pub by-sender : (me j : Point) (M : Point → List ℕ) (own low high : List ℕ) → own ≡ M me → low ≡ M (peer me Low) → high ≡ M (peer me High) →
    at_side (side_of me j) own low high ≡ M j
by-sender One One M own low high e f g = e
by-sender One Two M own low high e f g = f
by-sender One Three M own low high e f g = g
by-sender Two One M own low high e f g = f
by-sender Two Two M own low high e f g = e
by-sender Two Three M own low high e f g = g
by-sender Three One M own low high e f g = f
by-sender Three Two M own low high e f g = g
by-sender Three Three M own low high e f g = e
