-- The other two servers, as a server names them: the lower and the higher.
use Rattle.std.specs.Prelude.{ℕ, Option, Some, None}
use Rattle.beet_field.specs.declared.point.Point.{Point}
use Rattle.beet_field.specs.declared.point.Point.TheVariants.{One, Two, Three}
use Rattle.beet_round.specs.declared.sides.Side.{Side}
use Rattle.beet_round.specs.declared.sides.Side.TheVariants.{Low, High}

-- the other server of this side
abbrev pub peer : Point → Side → Point
peer One Low = Two
peer One High = Three
peer Two Low = One
peer Two High = Three
peer Three Low = One
peer Three High = Two

abbrev pub place_of : Side → ℕ
place_of Low = 0
place_of High = 1

-- the side of another server, or none for the server itself
abbrev pub side_of : Point → Point → Option Side
side_of One One = None
side_of One Two = Some Low
side_of One Three = Some High
side_of Two One = Some Low
side_of Two Two = None
side_of Two Three = Some High
side_of Three One = Some Low
side_of Three Two = Some High
side_of Three Three = None
