use Rattle.std.proofs.Common.{refl, sym}
use Rattle.beet_field.specs.declared.point.Point.TheVariants.{One, Two, Three}
use Rattle.beet_world.proofs.world.give_to.Goals as goal

pub returns-in-One : goal.returns-in-One
returns-in-One g c = record {
  others = elim [ One ↦ λ apart. absurd (apart (sym c.in-One.is)) | Two ↦ λ _. (refl, refl) | Three ↦ λ _. (refl, refl) ];
  took = rw c.in-One.is c.give.ensures.took;
  given = rw c.in-One.is c.give.ensures.given;
}

pub returns-in-Two : goal.returns-in-Two
returns-in-Two g c = record {
  others = elim [ One ↦ λ _. (refl, refl) | Two ↦ λ apart. absurd (apart (sym c.in-Two.is)) | Three ↦ λ _. (refl, refl) ];
  took = rw c.in-Two.is c.give-in-Two.ensures.took;
  given = rw c.in-Two.is c.give-in-Two.ensures.given;
}

pub returns-in-Three : goal.returns-in-Three
returns-in-Three g c = record {
  others = elim [ One ↦ λ _. (refl, refl) | Two ↦ λ _. (refl, refl) | Three ↦ λ apart. absurd (apart (sym c.in-Three.is)) ];
  took = rw c.in-Three.is c.give-in-Three.ensures.took;
  given = rw c.in-Three.is c.give-in-Three.ensures.given;
}
