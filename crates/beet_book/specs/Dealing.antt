-- Dealing: each quantity of a bidder becomes the value of a line, whose slope is the next number of the bidder's tape.
use Rattle.std.specs.Prelude.{◌≡◌, ◌≤◌, ℕ, ◌+◌, ◌*◌, List, ◌++◌, length, map, zip, Some, All}
use Rattle.std.specs.List.{slice_get}
use Rattle.beet_field.specs.Field.{add_of, mul_of}
use Rattle.beet_field.specs.declared.point.Point.{Point}
use Rattle.beet_field.specs.declared.point.Point.TheVariants.{One, Two, Three}
use Rattle.beet_field.specs.declared.trio.Trio.{Trio}
use Rattle.beet_shamir.specs.Line.{point_of}
use Rattle.beet_words.specs.Tapes.{Tape, drawn_from, left_of}
use Rattle.beet_bids.specs.Curves.{Curve, IsOfGrid}
use Rattle.beet_bids.specs.Grids.{Grid}

-- a function of two lists, item by item
unfoldable pub pairwise : (ℕ → ℕ → ℕ) → List ℕ → List ℕ → List ℕ
pairwise f xs ys = map (λ pair. f pair.0 pair.1) (zip xs ys)

-- the points at i of the lines with these values and slopes
abbrev pub points_by : ℕ → List ℕ → List ℕ → List ℕ
points_by i values slopes = pairwise (λ value slope. add_of value (mul_of slope i)) values slopes

-- the points at one server
abbrev pub points_at : List ℕ → List ℕ → Point → List ℕ
points_at values slopes at = pairwise (λ value slope. point_of value slope at) values slopes

-- the points at each server
abbrev pub shares_of : List ℕ → List ℕ → Trio (List ℕ)
shares_of values slopes = record {
  one = points_at values slopes One;
  two = points_at values slopes Two;
  three = points_at values slopes Three;
}

-- the quantities of a curve: buy at each place, and then sell
abbrev pub quantities : Curve → List ℕ
quantities curve = curve.buy ++ curve.sell

-- a bidder's points: the n-th number is the slope for the n-th quantity
abbrev pub dealt_points : Curve → List ℕ → Trio (List ℕ)
dealt_points curve numbers = shares_of (quantities curve) numbers

-- the curve was dealt by numbers drawn from the tape
pub record DealsBidder (curve : Curve) (old new : Tape) (dealt : Trio (List ℕ)) : Type 0 where
  pub points : dealt ≡ dealt_points curve (left_of old)
  pub drawn : new ≡ drawn_from old (length (quantities curve))

-- each curve was dealt by numbers drawn from its own tape
pub record DealsEach (curves : List Curve) (old new : List Tape) (dealt : List (Trio (List ℕ))) : Type 0 where
  pub tapes : length new ≡ length old
  pub count : length dealt ≡ length curves
  pub each : (i : ℕ) (curve : Curve) (before after : Tape) (points : Trio (List ℕ)) →
      slice_get curves i ≡ Some curve → slice_get old i ≡ Some before → slice_get new i ≡ Some after →
      slice_get dealt i ≡ Some points → DealsBidder curve before after points

-- each server has so many points
pub record HasLengths (points : Trio (List ℕ)) (count : ℕ) : Type 0 where
  pub one : length points.one ≡ count
  pub two : length points.two ≡ count
  pub three : length points.three ≡ count

-- each curve is of the grid, and has a tape of its own with a number for each of its quantities
pub record CanDealEach (grid : Grid) (curves : List Curve) (tapes : List Tape) : Type 0 where
  pub paired : length tapes ≡ length curves
  pub of_grid : All (IsOfGrid grid) curves
  pub words : All (λ tape. 2 * grid.prices ≤ length (left_of tape)) tapes

-- so many curves from one on can be dealt, each by a tape of its own
pub record CanDealPart (grid : Grid) (curves : List Curve) (from count : ℕ) (tapes : List Tape) : Type 0 where
  pub within : from + count ≤ length curves
  pub paired : length tapes ≡ count
  pub of_grid : All (IsOfGrid grid) curves
  pub words : All (λ tape. 2 * grid.prices ≤ length (left_of tape)) tapes

-- each curve of the grid was dealt by its own tape, and at each server there is a point for each of its quantities
pub record DealsOver (grid : Grid) (curves : List Curve) (old new : List Tape)
    (dealt : List (Trio (List ℕ))) : Type 0 where
  pub each : DealsEach curves old new dealt
  pub lengths : All (λ points. HasLengths points (2 * grid.prices)) dealt

-- the points are those of lines with these values
pub record AreShares (values : List ℕ) (points : Trio (List ℕ)) : Type 0 where
  pub slopes : List ℕ
  pub paired : length slopes ≡ length values
  pub shares : points ≡ shares_of values slopes
