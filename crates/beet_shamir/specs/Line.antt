-- A line is a value and a slope. Its point at i is value + slope * i.
use Rattle.std.specs.Prelude.{ℕ, ◌≡◌}
use Rattle.beet_field.specs.Field.{IsElement, add_of, mul_of, sub_of}
use Rattle.beet_field.specs.Point.{number_of}
use Rattle.beet_field.specs.declared.point.Point.{Point}
use Rattle.beet_field.specs.declared.point.Point.TheVariants.{One, Two, Three}
use Rattle.beet_field.specs.declared.trio.Trio.{Trio}

-- the point at `at` of the line with this value and slope
abbrev pub point_of : ℕ → ℕ → Point → ℕ
point_of value slope at = add_of value (mul_of slope (number_of at))

-- the three points of the line with this value and slope
abbrev pub points_of : ℕ → ℕ → Trio ℕ
points_of value slope = record {
  one = add_of value (mul_of slope 1);
  two = add_of value (mul_of slope 2);
  three = add_of value (mul_of slope 3);
}

-- the value of the line through the points at 1 and 2
abbrev pub recombined : Trio ℕ → ℕ
recombined points = sub_of (mul_of 2 points.one) points.two

-- if the points are those of a line, this is its value
abbrev pub GivesValue : Trio ℕ → ℕ → Type 0
GivesValue points value = (v s : ℕ) → IsElement v → points ≡ points_of v s → value ≡ v

-- the share of a product, of the three numbers that were sent for it
abbrev pub reshared : Trio ℕ → ℕ
reshared received = add_of (sub_of (mul_of 3 received.one) (mul_of 3 received.two)) received.three

-- the point at 2 lies midway
abbrev pub IsLine : Trio ℕ → Type 0
IsLine points = mul_of 2 points.two ≡ add_of points.one points.three

-- three numbers of the field
abbrev pub AreElements : Trio ℕ → Type 0
AreElements points = IsElement points.one × (IsElement points.two × IsElement points.three)

-- there is a line with these three points
pub record HasLine (points : Trio ℕ) : Type 0 where
  pub value : ℕ
  pub slope : ℕ
  pub is_value : IsElement value
  pub is_slope : IsElement slope
  pub has_points : points ≡ points_of value slope

-- no other line has these two points
abbrev pub IsOnlyLine : ℕ → ℕ → Point → ℕ → Point → ℕ → Type 0
IsOnlyLine value slope a at_a b at_b =
    (v s : ℕ) → IsElement v → IsElement s → point_of v s a ≡ at_a → point_of v s b ≡ at_b → (v ≡ value) × (s ≡ slope)

-- the product of the shares that a server holds of the lines (v, a) and (w, b)
abbrev pub local_product : ℕ → ℕ → ℕ → ℕ → Point → ℕ
local_product v a w b at = mul_of (point_of v a at) (point_of w b at)

-- what the three servers send to the one at `to`: each deals its local product again, with its number as the slope
abbrev pub dealt_again : ℕ → ℕ → ℕ → ℕ → Trio ℕ → Point → Trio ℕ
dealt_again v a w b numbers to = record {
  one = point_of (local_product v a w b One) numbers.one to;
  two = point_of (local_product v a w b Two) numbers.two to;
  three = point_of (local_product v a w b Three) numbers.three to;
}

-- if the numbers were dealt so for two lines, the share is the point of a line with the product of their values
abbrev pub SharesProduct : Trio ℕ → ℕ → Type 0
SharesProduct received share =
    (v a w b : ℕ) (numbers : Trio ℕ) (to : Point) → received ≡ dealt_again v a w b numbers to →
    share ≡ point_of (mul_of v w) (reshared numbers) to
