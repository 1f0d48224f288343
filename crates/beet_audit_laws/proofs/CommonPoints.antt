-- Lines with two points in common.
use Rattle.std.proofs.Common.{◌≡◌, ◌≢◌, ℕ, refl, arith}
use Rattle.beet_field.specs.Field.{IsElement}
use Rattle.beet_field.specs.declared.point.Point.{Point}
use Rattle.beet_field.specs.declared.point.Point.TheVariants.{One, Two, Three}
use Rattle.beet_shamir.specs.Line.{point_of, points_of}

-- they have the same value and the same slope
pub same-line : (i j : Point) → i ≢ j → (v a w b : ℕ) → IsElement v → IsElement a → IsElement w → IsElement b →
    point_of w b i ≡ point_of v a i → point_of w b j ≡ point_of v a j → (w ≡ v) × (b ≡ a)
same-line One One apart v a w b hv ha hw hb e f = absurd (apart refl)
same-line One Two apart v a w b hv ha hw hb e f = (omega arith, omega arith)
same-line One Three apart v a w b hv ha hw hb e f = (omega arith, omega arith)
same-line Two One apart v a w b hv ha hw hb e f = (omega arith, omega arith)
same-line Two Two apart v a w b hv ha hw hb e f = absurd (apart refl)
same-line Two Three apart v a w b hv ha hw hb e f = (omega arith, omega arith)
same-line Three One apart v a w b hv ha hw hb e f = (omega arith, omega arith)
same-line Three Two apart v a w b hv ha hw hb e f = (omega arith, omega arith)
same-line Three Three apart v a w b hv ha hw hb e f = absurd (apart refl)

-- and the same third point, whatever numbers name them
pub same-points : (i j : Point) → i ≢ j → (v a w b : ℕ) → point_of w b i ≡ point_of v a i → point_of w b j ≡ point_of v a j →
    points_of w b ≡ points_of v a
same-points One One apart v a w b e f = absurd (apart refl)
same-points One Two apart v a w b e f =
    let third : point_of w b Three ≡ point_of v a Three = omega arith in λ x. record { one = e x; two = f x; three = third x }
same-points One Three apart v a w b e f =
    let third : point_of w b Two ≡ point_of v a Two = omega arith in λ x. record { one = e x; two = third x; three = f x }
same-points Two One apart v a w b e f =
    let third : point_of w b Three ≡ point_of v a Three = omega arith in λ x. record { one = f x; two = e x; three = third x }
same-points Two Two apart v a w b e f = absurd (apart refl)
same-points Two Three apart v a w b e f =
    let third : point_of w b One ≡ point_of v a One = omega arith in λ x. record { one = third x; two = e x; three = f x }
same-points Three One apart v a w b e f =
    let third : point_of w b Two ≡ point_of v a Two = omega arith in λ x. record { one = f x; two = third x; three = e x }
same-points Three Two apart v a w b e f =
    let third : point_of w b One ≡ point_of v a One = omega arith in λ x. record { one = third x; two = f x; three = e x }
same-points Three Three apart v a w b e f = absurd (apart refl)

-- lines with the same value and a point in common have the same slope
pub same-slope : (i : Point) (v a b : ℕ) → IsElement a → IsElement b → point_of v b i ≡ point_of v a i → b ≡ a
same-slope One v a b ha hb e = omega arith
same-slope Two v a b ha hb e = omega arith
same-slope Three v a b ha hb e = omega arith
