-- Wires whose three points lie on lines, and the slopes of these lines in a run.
use Rattle.std.specs.Prelude.{◌≡◌, ◌↔◌, ℕ, zero, suc, ◌%◌, List, [], ◌∷◌, ◌++◌, length, slice_index}
use Rattle.beet_field.specs.Field.{p, IsElement}
use Rattle.beet_field.specs.Trio.{member, trio_of}
use Rattle.beet_field.specs.declared.point.Point.{Point}
use Rattle.beet_field.specs.declared.point.Point.TheVariants.{One, Two, Three}
use Rattle.beet_field.specs.declared.trio.Trio.{Trio}
use Rattle.beet_shamir.specs.Line.{point_of, reshared}
use Rattle.beet_gates.specs.Clear.{weighed, clear_at, EndsAfter}
use Rattle.beet_gates.specs.Deals.{deals_of}
use Rattle.beet_gates.specs.Each.{each}
use Rattle.beet_gates.specs.declared.Act.{Act}
use Rattle.beet_gates.specs.declared.Act.TheVariants.{Deal, Mul, Reveal, End}
use Rattle.beet_gates.specs.declared.Linear.{Linear}
use Rattle.beet_sharing.specs.Runs.{Setup, Shared, HasRounds, coming, shared_at, number_drawn}

-- the points of each wire are those of the line with its value and its slope
pub record OnLines (values slopes : List ℕ) (wires : Trio (List ℕ)) : Type 0 where
  pub paired : length slopes ≡ length values
  pub lengths : (i : Point) → length (member wires i) ≡ length values
  pub points : (i : Point) (w : ℕ) →
      slice_index (member wires i) w ≡ point_of (slice_index values w) (slice_index slopes w) i
  pub elements : (w : ℕ) → IsElement (slice_index values w)

-- the slope of a let: the same combination of slopes, without the constant
abbrev pub slope_of : List ℕ → Linear → ℕ
slope_of slopes l = weighed slopes l.terms % p

-- the slopes with those of the lets, in order
abbrev pub with_slopes : List ℕ → List Linear → List ℕ
with_slopes slopes [] = slopes
with_slopes slopes (l ∷ ls) = with_slopes (slopes ++ slope_of slopes l ∷ []) ls

-- the slopes of the wires that an act gives: of a dealt bit the number that its dealer drew, of a product the three
-- numbers drawn, put together
abbrev pub slopes_gained : Setup → Shared → Act → List ℕ
slopes_gained o s Deal =
    each (number_drawn o s One) 61 ++ (each (number_drawn o s Two) 61 ++ each (number_drawn o s Three) 61)
slopes_gained o s (Mul pairs) = each (λ k. reshared (trio_of (λ j. number_drawn o s j k))) (length pairs.items)
slopes_gained o s (Reveal shown) = []
slopes_gained o s End = []

-- the slopes after t batches, if those of the inputs are given
abbrev pub slopes_at : Setup → List ℕ → ℕ → List ℕ
slopes_at o slopes zero = slopes
slopes_at o slopes (suc t) =
    let s = shared_at o t in
    let b = o.next t s.opened in
    with_slopes (slopes_at o slopes t) b.lets.items ++ slopes_gained o s b.act

-- the slopes in the batch that comes after t batches, once its lets are there
abbrev pub slopes_standing : Setup → List ℕ → ℕ → List ℕ
slopes_standing o slopes t = with_slopes (slopes_at o slopes t) (coming o t).lets.items

-- the shared run and the clear run on the values of the inputs are at one after t batches
pub record IsAtOne (o : Setup) (values slopes : List ℕ) (t : ℕ) : Type 0 where
  pub lines : OnLines (clear_at o.next (deals_of o.masks) values t).wires (slopes_at o slopes t) (shared_at o t).wires
  pub opened : (shared_at o t).opened ≡ (clear_at o.next (deals_of o.masks) values t).opened
  pub dealt : (shared_at o t).dealt ≡ (clear_at o.next (deals_of o.masks) values t).dealt

-- both have the same rounds
abbrev pub HaveSameRounds : Setup → List ℕ → Type 0
HaveSameRounds o values = (r : ℕ) → HasRounds o r ↔ EndsAfter o.next (deals_of o.masks) values r
