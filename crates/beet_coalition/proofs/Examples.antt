-- A small run among five servers, computed.
use Rattle.std.proofs.Common.{◌≡◌, [], ◌∷◌, refl}
use Rattle.beet_gates.specs.Clear.{weighed}
use Rattle.beet_gates.specs.Each.{each}
use Rattle.beet_linear_sharing.specs.Runs.{shared_at}
use Rattle.beet_linear_sharing.specs.Schemes.{five_servers}
use Rattle.beet_coalition.specs.Examples.{product_points, product_setup, sends}

pub from-one : sends 1 ≡ (84 ∷ []) ∷ (91 ∷ []) ∷ (102 ∷ []) ∷ (117 ∷ []) ∷ (136 ∷ []) ∷ []
unfolding each weighed
from-one = refl

pub from-five : sends 5 ≡ (4736 ∷ []) ∷ (4775 ∷ []) ∷ (4834 ∷ []) ∷ (4913 ∷ []) ∷ (5012 ∷ []) ∷ []
unfolding each weighed
from-five = refl

pub points : product_points ≡ 11 ∷ 10 ∷ 9 ∷ 8 ∷ 7 ∷ []
unfolding each weighed
points = refl

pub opened : (shared_at five_servers product_setup 2).opened ≡ 12 ∷ []
unfolding each weighed
opened = refl
