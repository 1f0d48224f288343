-- Messages by the side of their receiver, and how often a test holds.
use Rattle.std.specs.Prelude.{ℕ, if◌then◌else◌, Bool}
use Rattle.beet_field.specs.declared.point.Point.{Point}
use Rattle.beet_round.specs.Sides.{peer}
use Rattle.beet_round.specs.declared.sides.Side.{Side}
use Rattle.beet_delivery.specs.Events.{Triple}

-- the message of a server to the other of a side in a round
abbrev pub to_side : Point → Side → ℕ → Triple
to_side s side t = record { from = s; to = peer s side; round = t }

-- 1 if a test holds, and else 0
abbrev pub one_if : Bool → ℕ
one_if b = if b then 1 else 0
