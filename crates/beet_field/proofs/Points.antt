-- The numbers of the points.
use Rattle.std.proofs.Common.{◌≤◌, arith}
use Rattle.beet_field.specs.Point.{number_of}
use Rattle.beet_field.specs.declared.point.Point.{Point}
use Rattle.beet_field.specs.declared.point.Point.TheVariants.{One, Two, Three}

pub point_low : (at : Point) → 1 ≤ number_of at
point_low One = omega arith
point_low Two = omega arith
point_low Three = omega arith

pub point_high : (at : Point) → number_of at ≤ 3
point_high One = omega arith
point_high Two = omega arith
point_high Three = omega arith
