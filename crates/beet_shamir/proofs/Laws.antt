-- What holds of lines: products that are dealt again, and three points on one.
use Rattle.std.proofs.Common.{◌≡◌, ℕ, ◌+◌, ◌*◌, ◌-◌, arith, refl, ap, ◌∙◌}
use Rattle.beet_field.specs.Field.{p, add_of, mul_of, sub_of}
use Rattle.beet_field.proofs.Modular.{mul_same}
use Rattle.beet_field.specs.declared.point.Point.{Point}
use Rattle.beet_field.specs.declared.trio.Trio.{Trio}
use Rattle.beet_shamir.specs.Line.{point_of, points_of, reshared, recombined, AreElements, HasLine, IsLine}

-- the point at i of a line
abbrev pub at_of : ℕ → ℕ → ℕ → ℕ
at_of v s i = add_of v (mul_of s i)

-- the line with the value 0 and the slope 0 is 0 at each point
pub zero-point : (at : Point) → 0 ≡ point_of 0 0 at
zero-point at = omega arith

-- three local products, dealt again and put together
pub reshared-dealt : (v a w b r1 r2 r3 i : ℕ) →
    reshared (record {
      one = at_of (mul_of (at_of v a 1) (at_of w b 1)) r1 i;
      two = at_of (mul_of (at_of v a 2) (at_of w b 2)) r2 i;
      three = at_of (mul_of (at_of v a 3) (at_of w b 3)) r3 i;
    }) ≡ at_of (mul_of v w) (add_of (sub_of (mul_of 3 r1) (mul_of 3 r2)) r3) i
reshared-dealt v a w b r1 r2 r3 i =
    let e1 = mul_same (at_of v a 1) (at_of w b 1) (v + a) (w + b) (omega arith) (omega arith) in
    let e2 = mul_same (at_of v a 2) (at_of w b 2) (v + 2 * a) (w + 2 * b) (omega arith) (omega arith) in
    let e3 = mul_same (at_of v a 3) (at_of w b 3) (v + 3 * a) (w + 3 * b) (omega arith) (omega arith) in
    let e4 = mul_same (add_of (sub_of (mul_of 3 r1) (mul_of 3 r2)) r3) i (3 * r1 + 3 * (p - 1) * r2 + r3) i (omega arith) refl in
    omega (arith, e1, e2, e3, e4)

-- trios are equal where their members are
pub same-trio : (s t : Trio ℕ) → s.one ≡ t.one → s.two ≡ t.two → s.three ≡ t.three → s ≡ t
same-trio s t e f g =
    ap (λ n. record s { one = n }) e ∙ (
    ap (λ n. record { one = t.one; two = n; three = s.three }) f ∙
    ap (λ n. record t { three = n }) g
    )

-- three points of which the second lies midway are those of the line with the recombined value
pub has-line : (points : Trio ℕ) → AreElements points → IsLine points → HasLine points
has-line points e h = record {
  value = recombined points;
  slope = sub_of points.two points.one;
  is_value = omega arith;
  is_slope = omega arith;
  has_points = same-trio points (points_of (recombined points) (sub_of points.two points.one)) (omega arith) (omega arith) (omega arith);
}

-- of the three points of a line the second lies midway
pub line-is : (points : Trio ℕ) → HasLine points → IsLine points
line-is points line = rw line.has_points (midway line.value line.slope) where
  midway : (v s : ℕ) → IsLine (points_of v s)
  midway v s = omega arith
