-- What the numbers of five servers give.
use Rattle.std.proofs.Common.{◌≡◌, ℕ, Bool, List, refl, slice_index, if◌then◌else◌}
use Rattle.beet_gates.specs.declared.Act.{Act}
use Rattle.beet_gates.specs.declared.Act.TheVariants.{Deal, Mul, Reveal, End}
use Rattle.beet_linear_sharing.specs.Sharings.{joined}
use Rattle.beet_weights.specs.Quadratics.{recombined, reshared, servers}
use Rattle.beet_server.specs.Values.{numbers_by, points_by}
use Rattle.beet_five_server.specs.Parts.{numbers_opened, points_given}

module _ (from : ℕ → List ℕ) where
  abbrev pub made_of : Bool → ℕ → ℕ
  made_of opens k = if opens then recombined (λ j. slice_index (from j) k) else reshared (λ j. slice_index (from j) k)

  pub points-are : (a : Act) → points_by a (joined from servers) made_of ≡ points_given a from
  points-are Deal = refl
  points-are (Mul pairs) = refl
  points-are (Reveal shown) = refl
  points-are End = refl

  pub numbers-are : (a : Act) → numbers_by a made_of ≡ numbers_opened a from
  numbers-are Deal = refl
  numbers-are (Mul pairs) = refl
  numbers-are (Reveal shown) = refl
  numbers-are End = refl
