-- What one gate adds to a standing and to values, and that what it hides are numbers of the field.
use Rattle.std.proofs.Common.{◌≡◌, ℕ, ◌+◌, false, List, refl, ap, arith}
use Rattle.std.specs.Int.{bit_at}
use Rattle.beet_field.specs.Field.{IsElement, mul_of}
use Rattle.beet_gates.specs.Clear.{Values, act_on, is_end}
use Rattle.beet_gates.specs.Draws.{draws_in, secret_of}
use Rattle.beet_gates.specs.Scripts.{Standing, acted}
use Rattle.beet_gates.specs.declared.Act.{Act}
use Rattle.beet_gates.specs.declared.Act.TheVariants.{Deal, Mul, Reveal, End}

pub acted-coefficients : (n : Standing) (a : Act) → (acted n a).coefficients ≡ n.coefficients + draws_in a
acted-coefficients n Deal = refl
acted-coefficients n (Mul pairs) = refl
acted-coefficients n (Reveal shown) = omega arith
acted-coefficients n End = omega arith

pub acted-done : (n : Standing) (a : Act) → is_end a ≡ false → (acted n a).done ≡ n.done + 1
acted-done n Deal h = refl
acted-done n (Mul pairs) h = refl
acted-done n (Reveal shown) h = refl
acted-done n End h = cc h

-- values that have dealt as many words deal as many in the next batch
pub level_act : (deals deals' : ℕ → List ℕ) (a : Act) (v v' : Values) → v'.dealt ≡ v.dealt →
    (act_on deals' a v').dealt ≡ (act_on deals a v).dealt
level_act deals deals' Deal v v' e = ap (λ n. n + 1) e
level_act deals deals' (Mul pairs) v v' e = e
level_act deals deals' (Reveal shown) v v' e = e
level_act deals deals' End v v' e = e

pub secret_small : (a : Act) (points : List ℕ) (word k : ℕ) → IsElement (secret_of a points word k)
secret_small Deal points word k = omega arith
secret_small (Mul pairs) points word k = omega arith
secret_small (Reveal shown) points word k = omega arith
secret_small End points word k = omega arith

pub bit-small : (word k : ℕ) → IsElement (bit_at word k)
bit-small word k = omega arith

pub product-small : (x y : ℕ) → IsElement (mul_of x y)
product-small x y = omega arith
