-- Three points tell the value of a polynomial of degree at most two.
use Rattle.std.proofs.Common.{◌≡◌, ◌<◌, ◌≤◌, ◌+◌, ◌-◌, ℕ, zero, suc, arith, subst}
use Rattle.beet_field.specs.Field.{IsElement}
use Rattle.beet_weights.specs.Quadratics.{IsServer, point_of}

module _ (v a b w c d : ℕ) (one : IsElement v) (two : IsElement w) where
  abbrev Same : ℕ → Type 0
  Same i = point_of v a b i ≡ point_of w c d i

  -- by how many servers stand before the first, between it and the second, and between that and the third
  tell : (x y z : ℕ) → x + y + z ≤ 2 → Same (suc x) → Same (suc (suc (x + y))) → Same (suc (suc (suc (x + y + z)))) → v ≡ w
  tell zero zero zero le e f g = omega (arith, one, two, e, f, g)
  tell zero zero (suc zero) le e f g = omega (arith, one, two, e, f, g)
  tell zero zero (suc (suc zero)) le e f g = omega (arith, one, two, e, f, g)
  tell zero zero (suc (suc (suc z))) le e f g = absurd (omega (arith, le))
  tell zero (suc zero) zero le e f g = omega (arith, one, two, e, f, g)
  tell zero (suc zero) (suc zero) le e f g = omega (arith, one, two, e, f, g)
  tell zero (suc zero) (suc (suc z)) le e f g = absurd (omega (arith, le))
  tell zero (suc (suc zero)) zero le e f g = omega (arith, one, two, e, f, g)
  tell zero (suc (suc zero)) (suc z) le e f g = absurd (omega (arith, le))
  tell zero (suc (suc (suc y))) z le e f g = absurd (omega (arith, le))
  tell (suc zero) zero zero le e f g = omega (arith, one, two, e, f, g)
  tell (suc zero) zero (suc zero) le e f g = omega (arith, one, two, e, f, g)
  tell (suc zero) zero (suc (suc z)) le e f g = absurd (omega (arith, le))
  tell (suc zero) (suc zero) zero le e f g = omega (arith, one, two, e, f, g)
  tell (suc zero) (suc zero) (suc z) le e f g = absurd (omega (arith, le))
  tell (suc zero) (suc (suc y)) z le e f g = absurd (omega (arith, le))
  tell (suc (suc zero)) zero zero le e f g = omega (arith, one, two, e, f, g)
  tell (suc (suc zero)) zero (suc z) le e f g = absurd (omega (arith, le))
  tell (suc (suc zero)) (suc y) z le e f g = absurd (omega (arith, le))
  tell (suc (suc (suc x))) y z le e f g = absurd (omega (arith, le))

  pub three-tell : (i j k : ℕ) → IsServer i → i < j → j < k → IsServer k → Same i → Same j → Same k → v ≡ w
  three-tell i j k first low high last e f g =
      tell (i - 1) (j - i - 1) (k - j - 1) (omega (arith, first.0, low, high, last.1))
      (subst Same (omega (arith, first.0)) e) (subst Same (omega (arith, first.0, low)) f)
      (subst Same (omega (arith, first.0, low, high)) g)
