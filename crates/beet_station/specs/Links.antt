-- What the ends of the links between three servers stand for.
use Rattle.std.specs.Prelude.{◌≡◌, ℕ, List}
use Rattle.beet_field.specs.declared.point.Point.{Point}
use Rattle.beet_field.specs.declared.point.Point.TheVariants.{One, Two, Three}
use Rattle.beet_field.specs.declared.trio.Trio.{Trio}
use Rattle.beet_gates.specs.declared.Batch.{Batch}
use Rattle.beet_server.specs.Cores.{Core}
use Rattle.beet_link.specs.Streams.{link_at}
use Rattle.beet_station.specs.declared.making.Ends.{Ends}
use Rattle.beet_station.specs.declared.making.Links.{Links}

module _ {S : Type 0} (next : S → ℕ → List ℕ → Batch) (inputs most : S → ℕ) where
  -- the ends of the first and of the second are those of the two links between them, and nothing has moved
  pub record AreBetween (start : Trio (Core S)) (first second : Point) (ends : Ends × Ends) : Type 0 where
    pub put_there : ends.0.to ≡ link_at next inputs most start first second 0
    pub taken_there : ends.1.from ≡ link_at next inputs most start first second 0
    pub put_back : ends.1.to ≡ link_at next inputs most start second first 0
    pub taken_back : ends.0.from ≡ link_at next inputs most start second first 0

  pub record AreLinked (start : Trio (Core S)) (links : Links) : Type 0 where
    pub one_two : AreBetween start One Two links.one_two
    pub one_three : AreBetween start One Three links.one_three
    pub two_three : AreBetween start Two Three links.two_three
