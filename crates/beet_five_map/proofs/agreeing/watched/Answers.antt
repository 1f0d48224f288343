use Rattle.beet_field.specs.declared.point.Point.TheVariants.{One, Two, Three}
use Rattle.beet_five_map.proofs.agreeing.watched.Goals as goal

pub returns : goal.returns
returns c = elim [ One ↦ c.watches.ensures | Two ↦ c.watches-2.ensures | Three ↦ c.watches-3.ensures ]
