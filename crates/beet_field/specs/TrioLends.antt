-- What a loan of one value of a trio leaves.
use Rattle.std.specs.Borrow.{Fml, RattleType, MutBor, Lends}
use Rattle.beet_field.specs.Trio.{with_member}
use Rattle.beet_field.specs.declared.point.Point.{Point}
use Rattle.beet_field.specs.declared.trio.Trio.{Trio}
use Rattle.beet_field.specs.contracts.trio.Trio.{the_row}

-- the trio ends with the last value that was written through the loan in place of the one at the point
module _ (T : RattleType) where
  abbrev pub LendsMember : MutBor (Trio T.Denot) → Point → MutBor T.Denot → Fml
  LendsMember t at r = Lends (the_row T) T t r (with_member t.now at)
