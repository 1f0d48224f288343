-- A run of two rounds, with a repeat, messages that are not sent yet and one to its own sender.
use Rattle.std.specs.Prelude.{ℕ, List, [], ◌∷◌}
use Rattle.beet_field.specs.declared.point.Point.{Point}
use Rattle.beet_field.specs.declared.point.Point.TheVariants.{One, Two, Three}
use Rattle.beet_delivery.specs.Events.{Triple}

abbrev pub triple : Point → Point → ℕ → Triple
triple from to round = record { from = from; to = to; round = round }

-- server 1 hears round 0 of both, and its round 1 comes to server 2 before the others have passed round 0
abbrev pub eight_events : List Triple
eight_events =
    triple One Two 0 ∷ triple One Two 0 ∷ triple One Two 1 ∷ triple Two Two 0 ∷ triple Two One 0 ∷ triple Three One 0
    ∷ triple One Two 1 ∷ triple One Three 2 ∷ []

-- those of them that add a message, which are also in the order of rounds, senders and receivers
abbrev pub four_added : List Triple
four_added = triple One Two 0 ∷ triple Two One 0 ∷ triple Three One 0 ∷ triple One Two 1 ∷ []
