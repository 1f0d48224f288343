-- A set of delivered messages as marks, six for each round: by round, sender and receiver.
use Rattle.std.specs.Prelude.{ℕ, ◌+◌, ◌*◌, ◌-◌, List, Option, Some, None, Bool, false, slice_index_or, replicate}
use Rattle.beet_field.specs.Point.{number_of}
use Rattle.beet_field.specs.declared.point.Point.{Point}
use Rattle.beet_round.specs.Sides.{place_of, side_of}
use Rattle.beet_round.specs.declared.sides.Side.{Side}
use Rattle.beet_delivery.specs.Events.{Delivered}

-- the place of the mark of a message to the receiver of this side
abbrev pub mark_at : Point → Side → ℕ → ℕ
mark_at from side round = 6 * round + (2 * (number_of from - 1) + place_of side)

-- whether the mark of a message is set; a server sends itself nothing
abbrev pub marked_to : List Bool → Point → Option Side → ℕ → Bool
marked_to marks from None round = false
marked_to marks from (Some side) round = slice_index_or marks (mark_at from side round) false

-- the set of the messages whose marks are set
abbrev pub set_of : List Bool → Delivered
set_of marks = λ from to round. marked_to marks from (side_of from to) round

-- no mark of so many rounds
abbrev pub unmarked : ℕ → List Bool
unmarked rounds = replicate (6 * rounds) false
