use Rattle.std.proofs.Common.{◌≢◌, ◌<◌, ◌+◌, ◌*◌, ℕ, None, Some, length, arith, sym, subst}
use Rattle.beet_gates.proofs.EachFacts.{each-zero}
use Rattle.beet_book.specs.PointSums.{AddsUp}
use Rattle.beet_field.specs.declared.point.Point.TheVariants.{One, Two, Three}
use Rattle.beet_shamir.specs.Line.{AreElements}
use Rattle.beet_book.specs.Dealing.{HasLengths}
use Rattle.beet_book.specs.Totals.{points_on}
use Rattle.beet_audit.specs.Audits.{OneBidder, points_from, points_of_bidder}
use Rattle.beet_audit.specs.declared.fault.AuditFault.TheVariants.{OutOfMemory}
use Rattle.beet_book.proofs.PointsAdded.{lengths-added}
use Rattle.beet_audit.proofs.PartFacts.{adds-more}
use Rattle.beet_audit.proofs.PointFacts.{bidders-many, have-lengths}
use Rattle.beet_audit.proofs.VerdictFacts.{below_next, stops_at}
use Rattle.beet_audit.proofs.bidders.add_in_order.Goals as goal

pub overflow_add-bidder : goal.overflow_add-bidder
overflow_add-bidder c = omega (arith, c.loop-place-test.true, c.requires.can.within, (c.requires.can.limits One).few)

pub overflow_cast-bidder : goal.overflow_cast-bidder
overflow_cast-bidder c = omega (arith, c.loop-place-test.true, c.requires.can.within, (c.requires.can.limits One).few)

pub check_bidder-requires-clause-few : goal.check_bidder-requires-clause-few
check_bidder-requires-clause-few c = omega (arith, c.loop-place-test.true, c.requires.can.within, (c.requires.can.limits One).few)

pub check_bidder-requires-clause-lengths : goal.check_bidder-requires-clause-lengths
check_bidder-requires-clause-lengths c =
    let views = c.args.views.now in
    let i = c.args.from + c.loop-place.place in
    let lt : i < length views.one.bidders = omega (arith, c.loop-place-test.true, c.requires.can.within) in
    subst (λ n. HasLengths (points_of_bidder views i) (2 * n)) (sym c.prices-prices.ensures.value)
    (have-lengths c.args.grid.now views c.requires.can.fit c.requires.can.limits i lt)

pub returns-in_err-check_bidder-clause-bidders : goal.returns-in_err-check_bidder-clause-bidders
returns-in_err-check_bidder-clause-bidders c =
    let views = c.args.views.now in
    let inv = c.loop-place.invariant in
    let i = c.loop-place.place in
    let from = c.args.from in
    let fault = c.in_err-check_bidder.field-0.0 in
    stops_at c.args.count (λ k. OneBidder c.args.grid.now.prices views (from + k)) _ i fault c.loop-place-test.true
    (λ k less. subst (λ n. OneBidder n views (from + k) None) inv.prices (inv.right k less)) c.from_residual.ensures.1
    (subst (λ n. fault ≢ OutOfMemory → OneBidder n views (from + i) (Some fault)) inv.prices c.in_err-check_bidder.ensures.bidder)

pub loop-place-init : goal.loop-place-init
loop-place-init c = record {
  prices = c.prices-prices.ensures.value;
  right = λ k lt. absurd (omega (arith, lt));
  elements = λ k lt. absurd (omega (arith, lt));
  sums = subst (AddsUp c.args.grid.now c.args.totals.now)
      (sym (each-zero (λ (k : ℕ). points_of_bidder c.args.views.now (c.args.from + k)))) c.requires.none;
}

pub points_in-requires-in-loop-place : goal.points_in-requires-in-loop-place
points_in-requires-in-loop-place c =
    let many = bidders-many c.args.grid.now c.args.views.now c.requires.can.fit c.requires.can.limits Two in
    omega (arith, many, c.loop-place-test.true, c.requires.can.within)

pub points_in-requires-in-loop-place-2 : goal.points_in-requires-in-loop-place-2
points_in-requires-in-loop-place-2 c =
    let many = bidders-many c.args.grid.now c.args.views.now c.requires.can.fit c.requires.can.limits Three in
    omega (arith, many, c.loop-place-test.true, c.requires.can.within)

pub add_points-requires : goal.add_points-requires
add_points-requires c =
    let grid = c.args.grid.now in
    let views = c.args.views.now in
    let i = c.args.from + c.loop-place.place in
    let long = have-lengths grid views c.requires.can.fit c.requires.can.limits i
    (omega (arith, c.loop-place-test.true, c.requires.can.within)) in
    rw (c.points_in.ensures, c.points_in-in-loop-place.ensures, c.points_in-in-loop-place-2.ensures)
    (lengths-added grid (points_from views c.args.from c.loop-place.place) (points_of_bidder views i) c.loop-place.totals
    c.loop-place.invariant.sums long)

pub loop-place-preserved : goal.loop-place-preserved
loop-place-preserved c =
    let views = c.args.views.now in
    let prices = c.prices-prices.result in
    let from = c.args.from in
    let inv = c.loop-place.invariant in
    record {
      prices = inv.prices;
      right = below_next (λ k. OneBidder prices views (from + k) None) c.loop-place.place inv.right
          c.in_ok-check_bidder.ensures.bidder;
      elements = below_next (λ k. (n : ℕ) → n < 2 * prices → AreElements (points_on (points_of_bidder views (from + k)) n))
          c.loop-place.place inv.elements
          c.in_ok-check_bidder.ensures.elements;
      sums = adds-more c.args.grid.now views c.loop-place.totals c.add_points.new.self from c.loop-place.place inv.sums
          (have-lengths c.args.grid.now views c.requires.can.fit c.requires.can.limits (from + c.loop-place.place)
          (omega (arith, c.loop-place-test.true, c.requires.can.within)))
          (rw (c.points_in.ensures, c.points_in-in-loop-place.ensures, c.points_in-in-loop-place-2.ensures)
          at c.add_points.ensures.sums);
    }

pub returns-clause-bidders : goal.returns-clause-bidders
returns-clause-bidders c =
    let inv = c.loop-place.invariant in
    λ k lt. subst (λ n. OneBidder n c.args.views.now (c.args.from + k) None) inv.prices
    (inv.right k (omega (arith, lt, c.loop-place-test.false)))
