-- How the auction's script ends on points that may lie on no line.
use Rattle.std.specs.Prelude.{◌≡◌, ◌+◌, ◌*◌, ℕ, List, All, length, slice_index}
use Rattle.beet_field.specs.Field.{IsElement}
use Rattle.beet_field.specs.Trio.{member}
use Rattle.beet_field.specs.declared.point.Point.{Point}
use Rattle.beet_field.specs.declared.trio.Trio.{Trio}
use Rattle.beet_gates.specs.Each.{each}
use Rattle.beet_plan.specs.Auction.{Auction}
use Rattle.beet_plan.specs.Runs.{found, place_of_inputs, run_finish, run_rounds}
use Rattle.beet_masking.specs.Masks.{mask_at}
use Rattle.beet_plan.specs.declared.Finish.{Finish}
use Rattle.beet_sharing.specs.Runs.{opened_at}

-- each server has as many points as the auction has inputs, and all are numbers of the field
pub record ArePoints (a : Auction) (inputs : Trio (List ℕ)) : Type 0 where
  pub lengths : (i : Point) → length (member inputs i) ≡ 2 * a.prices
  pub elements : (i : Point) → All IsElement (member inputs i)

-- the values of the first n wires, each that of the line through its points at 1 and 2
abbrev pub values_on : ℕ → Trio (List ℕ) → List ℕ
values_on n wires = each (opened_at wires) n

-- the place at which the search over these points ends
abbrev pub points_place : Auction → Trio (List ℕ) → ℕ
points_place a inputs = place_of_inputs a (values_on (2 * a.prices) inputs)

-- how a run on these points ends with these mask words: with what the search finds, or spent if the third rejected
-- mask comes first
abbrev pub points_finish : Auction → Trio (List ℕ) → Trio (List ℕ) → Finish
points_finish a inputs masks =
    let z = points_place a inputs in
    let values = values_on (2 * a.prices) inputs in
    run_finish a.prices (mask_at masks) z
    (found a.policy a.prices (slice_index values) (λ k. slice_index values (a.prices + k)) z)

-- and after how many rounds
abbrev pub points_rounds : Auction → Trio (List ℕ) → Trio (List ℕ) → ℕ
points_rounds a inputs masks = run_rounds a (mask_at masks) (points_place a inputs)
