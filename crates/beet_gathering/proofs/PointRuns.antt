-- The run on the points of the bidders of a list.
use Rattle.std.proofs.Common.{◌≡◌, ℕ, ◌*◌, List, length, ◌∙◌, ap, refl, subst, sym}
use Rattle.beet_field.specs.Trio.{member}
use Rattle.beet_field.specs.declared.point.Point.{Point}
use Rattle.beet_field.specs.declared.trio.Trio.{Trio}
use Rattle.beet_bids.specs.Grids.{Grid}
use Rattle.beet_book.specs.Totals.{Totals, wires_of}
use Rattle.beet_masking.specs.Masks.{AreMasks}
use Rattle.beet_plan.specs.declared.Finish.{Finish}
use Rattle.beet_plan.specs.Auction.{auction_over}
use Rattle.beet_load.specs.Servers.{ServerWords, masks_of}
use Rattle.beet_run.specs.Outcomes.{outcome_answer}
use Rattle.beet_run.specs.Runs.{EndsAuction, setup_with}
use Rattle.beet_run.proofs.BookRuns.{one-end}
use Rattle.beet_auction.specs.AnyPoints.{points_finish, points_rounds}
use Rattle.beet_book.specs.PointSums.{AddsUp, inputs_at}
use Rattle.beet_gathering.specs.Opened.{opened_answer}
use Rattle.beet_auction.proofs.OtherPoints.{any-ends}
use Rattle.beet_auction.proofs.AddedPoints.{inputs-many, are-points}

-- the run on the points of bidders ends so
pub points-end : (grid : Grid) (bidders : List (Trio (List ℕ))) (words : Trio ServerWords) → AreMasks (masks_of words) →
    EndsAuction grid (inputs_at grid.prices bidders) words
    (points_finish (auction_over grid) (inputs_at grid.prices bidders) (masks_of words))
    (points_rounds (auction_over grid) (inputs_at grid.prices bidders) (masks_of words))
points-end grid bidders words masks = record {
  ends = any-ends (auction_over grid) (setup_with grid (inputs_at grid.prices bidders) words) (are-points grid bidders) masks refl;
  masks = masks;
}

-- and with what they open
run-opened : (grid : Grid) (bidders : List (Trio (List ℕ))) (words : Trio ServerWords) (finish : Finish) (rounds : ℕ) →
    EndsAuction grid (inputs_at grid.prices bidders) words finish rounds →
    outcome_answer grid finish rounds ≡ opened_answer grid words bidders
run-opened grid bidders words finish rounds h =
    let a = auction_over grid in
    let inputs = inputs_at grid.prices bidders in
    let masks = masks_of words in
    let same = one-end a (setup_with grid inputs words) rounds (points_rounds a inputs masks) finish (points_finish a inputs masks) h.ends
    (points-end grid bidders words h.masks).ends in
    λ j. outcome_answer grid (same.0 j) (same.1 j)

module _ (grid : Grid) (totals : Totals) (bidders : List (Trio (List ℕ))) (inputs : Trio (List ℕ)) (sums : AddsUp grid totals bidders)
    (are : inputs ≡ wires_of totals) where
  -- the inputs are the sums, with supply first
  pub sums-first : inputs ≡ inputs_at grid.prices bidders
  sums-first = are ∙ ap wires_of sums

  -- they are as many as the script wants
  pub many : (s : Point) → length (member inputs s) ≡ 2 * grid.prices
  many s = ap (λ t. length (member t s)) sums-first ∙ inputs-many grid.prices bidders s

  -- and the answer tells how a run on them ends
  pub answer-opened : (words : Trio ServerWords) (finish : Finish) (rounds : ℕ) → EndsAuction grid inputs words finish rounds →
      opened_answer grid words bidders ≡ outcome_answer grid finish rounds
  answer-opened words finish rounds h =
      sym (run-opened grid bidders words finish rounds (subst (λ t. EndsAuction grid t words finish rounds) sums-first h))
