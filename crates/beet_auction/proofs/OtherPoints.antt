-- A run on any points ends as that whose points of server 3 lie on the lines through the points of servers 1 and 2.
use Rattle.std.proofs.Common.{◌≡◌, ℕ, ◌+◌, ◌*◌, ◌<◌, List, [], length, slice_index, refl, sym, ◌∙◌, ap, subst, arith, zero-add}
use Rattle.std.specs.Prelude.{All}
use Rattle.std.proofs.lemmas.Grind.{same_number_lists}
use Rattle.std.proofs.lemmas.List.Elements.{All-from_get_or, All-get_or}
use Rattle.beet_field.specs.Field.{IsElement, add_of, mul_of, sub_of}
use Rattle.beet_field.specs.Trio.{member}
use Rattle.beet_field.specs.declared.point.Point.{Point}
use Rattle.beet_field.specs.declared.point.Point.TheVariants.{One, Two, Three}
use Rattle.beet_field.specs.declared.trio.Trio.{Trio}
use Rattle.beet_shamir.specs.Line.{point_of}
use Rattle.beet_bids.specs.Grids.{comparisons_of}
use Rattle.beet_gates.specs.Clear.{first_end, is_end}
use Rattle.beet_gates.specs.Each.{each}
use Rattle.beet_gates.specs.Plans.{plan_finish}
use Rattle.beet_gates.proofs.EachFacts.{length-each, item-each}
use Rattle.beet_gates.proofs.PlanFacts.{Follows}
use Rattle.beet_plan.specs.Auction.{Auction, auction_batch, auction_plan, most_rounds}
use Rattle.beet_masking.specs.Masks.{AreMasks}
use Rattle.beet_plan.specs.Runs.{found}
use Rattle.beet_plan.specs.declared.Finish.{Finish}
use Rattle.beet_plan.proofs.AuctionLaw.{follows-itself}
use Rattle.beet_plan.proofs.AuctionRuns.{auction-run}
use Rattle.beet_sharing.specs.Lines.{OnLines}
use Rattle.beet_sharing.specs.Runs.{Setup, opened_at, rounds_among}
use Rattle.beet_sharing.proofs.Lined.{lined-each, lined-same, on-lines}
use Rattle.beet_auction.specs.AnyPoints.{ArePoints, points_finish, points_place, points_rounds, values_on}
use Rattle.beet_auction.specs.Endings.{AuctionEnds}
use Rattle.beet_masking.specs.Blocks.{blocks_of}
use Rattle.beet_auction.proofs.OwnBlocks.{own-blocks}
use Rattle.beet_auction.proofs.Apart.{with_third}
use Rattle.beet_auction.proofs.Ends.{lines-end}
use Rattle.beet_auction.proofs.SameOpened.{SameOpened, search-goes, start-alike}

-- runs of the auction's script that differ in server 3's points of the inputs open the same numbers
same-opened : (a : Auction) (o : Setup) (points : List ℕ) → o.next ≡ auction_batch a → length points ≡ 2 * a.prices →
    length o.inputs.three ≡ 2 * a.prices →
    (t : ℕ) → SameOpened o points t
same-opened a o points next long as_long t =
    subst (SameOpened o points) (zero-add t)
    (search-goes o points (blocks_of a.gates) (own-blocks a.gates) a.policy a.prices (comparisons_of a.prices) 0 a.prices 2 (2 * a.prices) 0
    (start-alike o points (2 * a.prices) long as_long)
    (subst (λ n. Follows n 0 [] (auction_plan a)) (sym next) (follows-itself a)) t)

-- and end alike
module _ (a : Auction) (o : Setup) (points : List ℕ) (same : (t : ℕ) → SameOpened o points t) where
  end-same : (most : ℕ) → rounds_among o most ≡ rounds_among (with_third points o) most
  unfolding rounds_among
  end-same most = sym (λ j. first_end (λ t. (o.next t (same t j)).act) most)

  same-ending : (rounds : ℕ) (finish : Finish) → AuctionEnds a (with_third points o) rounds finish → AuctionEnds a o rounds finish
  same-ending rounds finish e = record {
    has_rounds = record {
      ends = sym (ap (λ x. is_end (o.next rounds x).act) (same rounds)) ∙ e.has_rounds.ends;
      goes = λ t lt. sym (ap (λ x. is_end (o.next t x).act) (same t)) ∙ e.has_rounds.goes t lt;
    };
    counted = end-same (most_rounds a) ∙ e.counted;
    finish_named = sym (ap (plan_finish (auction_plan a)) (same rounds)) ∙ e.finish_named;
  }

-- the slope of the line through the points of a wire at 1 and 2
abbrev slope_at : Trio (List ℕ) → ℕ → ℕ
slope_at wires w = sub_of (slice_index wires.two w) (slice_index wires.one w)

-- the points of server 3 on these lines
abbrev third_on : ℕ → Trio (List ℕ) → List ℕ
third_on n wires = each (λ w. point_of (opened_at wires w) (slope_at wires w) Three) n

module _ (a : Auction) (inputs : Trio (List ℕ)) (are : ArePoints a inputs) where
  -- a point lies on the line through it
  at-one : (x y : ℕ) → IsElement x → IsElement y → x ≡ add_of (sub_of (mul_of 2 x) y) (mul_of (sub_of y x) 1)
  at-one x y h k = omega arith

  at-two : (x y : ℕ) → IsElement x → IsElement y → y ≡ add_of (sub_of (mul_of 2 x) y) (mul_of (sub_of y x) 2)
  at-two x y h k = omega arith

  abbrev new : Trio (List ℕ)
  new = record inputs { three = third_on (2 * a.prices) inputs }

  item-small : (i : Point) (k : ℕ) → k < 2 * a.prices → IsElement (slice_index (member inputs i) k)
  item-small i k h = All-get_or IsElement (member inputs i) k 0 (omega (arith, are.lengths i)) (are.elements i)

  on-each : (i : Point) → member new i ≡ each (λ w. point_of (opened_at inputs w) (slope_at inputs w) i) (2 * a.prices)
  on-each One =
      let point : ℕ → ℕ = λ w. point_of (opened_at inputs w) (slope_at inputs w) One in
      same_number_lists inputs.one (each point (2 * a.prices)) (are.lengths One ∙ sym (length-each point (2 * a.prices)))
      (λ k lt.
      at-one (slice_index inputs.one k) (slice_index inputs.two k) (item-small One k (omega (arith, are.lengths One)))
      (item-small Two k (omega (arith, are.lengths One)))
      ∙ sym (item-each point (2 * a.prices) k (omega (arith, are.lengths One))))
  on-each Two =
      let point : ℕ → ℕ = λ w. point_of (opened_at inputs w) (slope_at inputs w) Two in
      same_number_lists inputs.two (each point (2 * a.prices)) (are.lengths Two ∙ sym (length-each point (2 * a.prices)))
      (λ k lt.
      at-two (slice_index inputs.one k) (slice_index inputs.two k) (item-small One k (omega (arith, are.lengths Two)))
      (item-small Two k (omega (arith, are.lengths Two)))
      ∙ sym (item-each point (2 * a.prices) k (omega (arith, are.lengths Two))))
  on-each Three = refl

  small : (w : ℕ) → IsElement (opened_at inputs w)
  small w = omega arith

  new-lines : OnLines (values_on (2 * a.prices) inputs) (each (slope_at inputs) (2 * a.prices)) new
  new-lines =
      let points : Point → ℕ → ℕ = λ i w. point_of (opened_at inputs w) (slope_at inputs w) i in
      on-lines _ _ new (lined-same _ _ (λ i. each (points i) (2 * a.prices)) (member new) on-each
      (lined-each (2 * a.prices) (opened_at inputs) (slope_at inputs) points (λ k h. small k) (λ i k h. refl)))

  values-small : All IsElement (values_on (2 * a.prices) inputs)
  values-small =
      All-from_get_or IsElement (values_on (2 * a.prices) inputs) 0
      (λ k lt.
      let within : k < 2 * a.prices = omega (arith, length-each (opened_at inputs) (2 * a.prices)) in
      subst IsElement (sym (item-each (opened_at inputs) (2 * a.prices) k within)) (small k))

-- a run on any points ends so
pub any-ends : (a : Auction) (o : Setup) → ArePoints a o.inputs → AreMasks o.masks → o.next ≡ auction_batch a →
    AuctionEnds a o (points_rounds a o.inputs o.masks) (points_finish a o.inputs o.masks)
any-ends a o are masks next =
    let n = 2 * a.prices in
    let values = values_on n o.inputs in
    let third = third_on n o.inputs in
    let long : length third ≡ n = length-each (λ w. point_of (opened_at o.inputs w) (slope_at o.inputs w) Three) n in
    let z = points_place a o.inputs in
    let run = auction-run a values o.masks (length-each (opened_at o.inputs) n) (values-small a o.inputs are) masks in
    same-ending a o third (same-opened a o third next long (are.lengths Three)) (points_rounds a o.inputs o.masks)
    (points_finish a o.inputs o.masks)
    (lines-end a (with_third third o) values (each (slope_at o.inputs) n) z
    (found a.policy a.prices (slice_index values) (λ k. slice_index values (a.prices + k)) z)
    (length-each (opened_at o.inputs) n) next (new-lines a o.inputs are) run)
