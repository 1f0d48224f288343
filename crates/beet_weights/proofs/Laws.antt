-- What holds of polynomials of degree at most two at the points of five servers.
use Rattle.std.proofs.Common.{◌≡◌, ◌<◌, ℕ, zero, suc, ◌+◌, ◌*◌, ◌-◌, ◌%◌, arith, refl, ap, ◌∙◌}
use Rattle.beet_field.specs.Field.{p, mul_of, IsElement}
use Rattle.beet_field.proofs.Modular.{mul_same}
use Rattle.beet_weights.specs.Weights.{AreWeights, five_weights, three_weights, power_sum}
use Rattle.beet_weights.specs.Quadratics.{point_of, reshared, recombined}

none-three : (k : ℕ) → 0 < k → k < 3 → power_sum three_weights 1 k % p ≡ 0
none-three zero h l = absurd (omega arith)
none-three (suc zero) h l = refl
none-three (suc (suc zero)) h l = refl
none-three (suc (suc (suc k))) h l = absurd (omega arith)

pub three-are : AreWeights three_weights
three-are = record { one = refl; none = none-three }

none-five : (k : ℕ) → 0 < k → k < 5 → power_sum five_weights 1 k % p ≡ 0
none-five zero h l = absurd (omega arith)
none-five (suc zero) h l = refl
none-five (suc (suc zero)) h l = refl
none-five (suc (suc (suc zero))) h l = refl
none-five (suc (suc (suc (suc zero)))) h l = refl
none-five (suc (suc (suc (suc (suc k))))) h l = absurd (omega arith)

pub five-are : AreWeights five_weights
five-are = record { one = refl; none = none-five }

-- the value of a polynomial from its points at 1, 2 and 3
pub recombined-point : (v a b : ℕ) → IsElement v → recombined (point_of v a b) ≡ v
recombined-point v a b h = omega arith

-- the product of two points, without the remainders between
product_at : (v a b w c d i : ℕ) →
    mul_of (point_of v a b i) (point_of w c d i) ≡ ((v + a * i + b * (i * i)) * (w + c * i + d * (i * i))) % p
product_at v a b w c d i =
    mul_same (point_of v a b i) (point_of w c d i) (v + a * i + b * (i * i)) (w + c * i + d * (i * i)) (omega arith) (omega arith)

-- five local products, put together, are the product of the values: the product has degree four, and five points give its value
pub reshared-products : (v a b w c d : ℕ) → reshared (λ j. mul_of (point_of v a b j) (point_of w c d j)) ≡ mul_of v w
reshared-products v a b w c d =
    let e1 = product_at v a b w c d 1 in
    let e2 = product_at v a b w c d 2 in
    let e3 = product_at v a b w c d 3 in
    let e4 = product_at v a b w c d 4 in
    let e5 = product_at v a b w c d 5 in
    omega (arith, e1, e2, e3, e4, e5)

-- points at one server of five polynomials, put together, are the point of the polynomial that is put together
pub reshared-points : (h r s : ℕ → ℕ) (i : ℕ) →
    reshared (λ j. point_of (h j) (r j) (s j) i) ≡ point_of (reshared h) (reshared r) (reshared s) i
reshared-points h r s i =
    let e = mul_same (reshared r) i (5 * r 1 + (p - 10) * r 2 + 10 * r 3 + (p - 5) * r 4 + r 5) i (omega arith) refl in
    let f = mul_same (reshared s) (i * i) (5 * s 1 + (p - 10) * s 2 + 10 * s 3 + (p - 5) * s 4 + s 5) (i * i) (omega arith) refl in
    omega (arith, e, f)

-- local products that are dealt again, put together, are points of a polynomial with the product of the values
pub reshared-dealt : (v a b w c d : ℕ) (firsts seconds : ℕ → ℕ) (to : ℕ) →
    reshared (λ j. point_of (mul_of (point_of v a b j) (point_of w c d j)) (firsts j) (seconds j) to)
    ≡ point_of (mul_of v w) (reshared firsts) (reshared seconds) to
reshared-dealt v a b w c d firsts seconds to =
    reshared-points (λ j. mul_of (point_of v a b j) (point_of w c d j)) firsts seconds to
    ∙ ap (λ n. point_of n (reshared firsts) (reshared seconds) to) (reshared-products v a b w c d)
