-- The points of a sealed envelope, which is read again.
use Rattle.std.proofs.Common.{◌≡◌, ℕ, ◌*◌, ◌<◌, ◌≤◌, List, length, slice_index, All, Ok, arith, refl}
use Rattle.std.proofs.lemmas.List.Elements.{All-from_get_or}
use Rattle.beet_field.specs.Field.{IsElement}
use Rattle.beet_field.specs.Trio.{member}
use Rattle.beet_field.specs.declared.point.Point.{Point}
use Rattle.beet_field.specs.declared.point.Point.TheVariants.{One, Two, Three}
use Rattle.beet_shamir.specs.Line.{point_of}
use Rattle.beet_words.specs.Words.{accepted}
use Rattle.beet_bids.specs.Curves.{Curve, IsOfGrid}
use Rattle.beet_bids.specs.Grids.{Grid, IsGrid}
use Rattle.beet_book.proofs.Quantities.{quantities-many}
use Rattle.beet_book.proofs.Pairs.{length-pairwise, item-pairwise}
use Rattle.beet_book.specs.Dealing.{quantities, dealt_points, points_at}
use Rattle.beet_farmer.specs.Envelopes.{envelope_of}
use Rattle.beet_farmer.specs.Sealing.{envelope_for, sealed_envelope}
use Rattle.beet_farmer.proofs.EnvelopeAgain.{envelope_of-bytes}

pub member-dealt : (curve : Curve) (numbers : List ℕ) (s : Point) →
    member (dealt_points curve numbers) s ≡ points_at (quantities curve) numbers s
member-dealt curve numbers One = refl
member-dealt curve numbers Two = refl
member-dealt curve numbers Three = refl

pub long : (grid : Grid) (curve : Curve) (words : List ℕ) (s : Point) → IsOfGrid grid curve →
    2 * grid.prices ≤ length (accepted words) →
    length (points_at (quantities curve) (accepted words) s) ≡ 2 * grid.prices
long grid curve words s of_grid enough =
    omega (
      arith,
      length-pairwise (λ value slope. point_of value slope s) (quantities curve) (accepted words),
      quantities-many grid curve of_grid,
      enough,
    )

pub item : (grid : Grid) (curve : Curve) (words : List ℕ) (s : Point) (k : ℕ) → IsOfGrid grid curve →
    2 * grid.prices ≤ length (accepted words) → k < 2 * grid.prices →
    slice_index (points_at (quantities curve) (accepted words) s) k
    ≡ point_of (slice_index (quantities curve) k) (slice_index (accepted words) k) s
item grid curve words s k of_grid enough lt =
    item-pairwise (λ value slope. point_of value slope s) (quantities curve) (accepted words) k
    (omega (arith, quantities-many grid curve of_grid, lt)) (omega (arith, enough, lt))

below : (v a : ℕ) (s : Point) → IsElement (point_of v a s)
below v a s = omega arith

points-elements : (grid : Grid) (curve : Curve) (words : List ℕ) (s : Point) → IsOfGrid grid curve →
    2 * grid.prices ≤ length (accepted words) → All IsElement (points_at (quantities curve) (accepted words) s)
points-elements grid curve words s of_grid enough =
    All-from_get_or IsElement (points_at (quantities curve) (accepted words) s) 0
    (λ k lt. rw (item grid curve words s k of_grid enough (omega (arith, long grid curve words s of_grid enough, lt)))
    (below (slice_index (quantities curve) k) (slice_index (accepted words) k) s))

-- an envelope that was sealed is read again
pub sealed-again : (grid : Grid) (curve : Curve) (words : List ℕ) (s : Point) → IsGrid grid → IsOfGrid grid curve →
    2 * grid.prices ≤ length (accepted words) →
    envelope_of grid s (envelope_for grid curve words s) ≡ Ok (sealed_envelope curve words s)
sealed-again grid curve words s limits of_grid enough =
    let same = member-dealt curve (accepted words) s in
    envelope_of-bytes grid (sealed_envelope curve words s) limits
    (rw same (long grid curve words s of_grid enough)) (rw same (points-elements grid curve words s of_grid enough))
