-- What holds of the three values of a trio.
use Rattle.beet_field.specs.Trio.{member}
use Rattle.beet_field.specs.declared.point.Point.{Point}
use Rattle.beet_field.specs.declared.point.Point.TheVariants.{One, Two, Three}
use Rattle.beet_field.specs.declared.trio.Trio.{Trio}

-- what holds of all three holds of the value at each point
pub at-each : {T : Type 0} (P : T → Type 0) (t : Trio T) → P t.one × P t.two × P t.three → (at : Point) → P (member t at)
at-each P t all One = all.0
at-each P t all Two = all.1
at-each P t all Three = all.2
