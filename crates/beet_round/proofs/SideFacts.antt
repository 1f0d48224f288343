-- The sides of the other two servers.
use Rattle.std.proofs.Common.{◌≡◌, Some, refl}
use Rattle.beet_field.specs.declared.point.Point.{Point}
use Rattle.beet_field.specs.declared.point.Point.TheVariants.{One, Two, Three}
use Rattle.beet_round.specs.declared.sides.Side.{Side}
use Rattle.beet_round.specs.declared.sides.Side.TheVariants.{Low, High}
use Rattle.beet_round.specs.Sides.{peer, side_of}

pub side_of-peer : (me : Point) (s : Side) → side_of me (peer me s) ≡ Some s
side_of-peer One Low = refl
side_of-peer One High = refl
side_of-peer Two Low = refl
side_of-peer Two High = refl
side_of-peer Three Low = refl
side_of-peer Three High = refl

pub peer-apart : (me : Point) (s : Side) → peer me s ≡ me → ⊥
peer-apart One Low e = cc e
peer-apart One High e = cc e
peer-apart Two Low e = cc e
peer-apart Two High e = cc e
peer-apart Three Low e = cc e
peer-apart Three High e = cc e

pub peer-one : (me : Point) (s t : Side) → peer me s ≡ peer me t → s ≡ t
peer-one me Low Low e = refl
peer-one me High High e = refl
peer-one One Low High e = cc e
peer-one Two Low High e = cc e
peer-one Three Low High e = cc e
peer-one One High Low e = cc e
peer-one Two High Low e = cc e
peer-one Three High Low e = cc e
