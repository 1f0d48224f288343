-- A place that a run keeps on a walk along a plan.
use Rattle.std.specs.Prelude.{ℕ, List}
use Rattle.beet_gates.specs.Places.{GoesOnFrom}
use Rattle.beet_gates.specs.Plans.{Plan}
use Rattle.beet_walk.specs.declared.Place.{Place}

-- a run of a whole plan that has done so many batches, and has opened these numbers, may go on from the place, whose
-- walk stays within its bounds
pub record IsAt {W F : Type 0} (bounded : W → Type 0) (left_of : W → Plan F) (whole : Plan F) (done : ℕ)
    (opened : List ℕ) (place : Place W) : Type 0 where
  pub fits : bounded place.walk
  pub there : GoesOnFrom whole done opened (left_of place.walk) place.before place.read
