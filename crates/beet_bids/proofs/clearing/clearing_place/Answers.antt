use Rattle.std.proofs.Common.{◌≡◌, arith, ap, ◌∙◌}
use Rattle.beet_bids.specs.Grids.{Grid}
use Rattle.beet_bids.proofs.BookSums.{clearing-above, clearing-at-most, clearing-within}
use Rattle.beet_bids.proofs.clearing.clearing_place.Goals as goal

pub loop-low-init : goal.loop-low-init
loop-low-init c =
    let all : c.prices-high.result ≡ c.args.book.now.grid.prices =
    c.prices-high.ensures.value ∙ ap (λ (grid : Grid). grid.prices) c.grid.ensures.value in
    record {
      low = omega arith;
      high = omega (arith, clearing-within c.args.book.now, all);
      within = omega (arith, all);
    }

pub loop-low-preserved-then-supply-demand : goal.loop-low-preserved-then-supply-demand
loop-low-preserved-then-supply-demand c =
    let inv = c.loop-low.invariant in
    let past = clearing-above c.args.book.now c.grid.ensures.limits c.midpoint-middle.result (omega arith)
    (omega (arith, c.if-supply-demand.true, c.supply.ensures.value, c.demand.ensures.value)) in
    record { low = omega (arith, past); high = inv.high; within = inv.within }

pub loop-low-preserved : goal.loop-low-preserved
loop-low-preserved c =
    let inv = c.loop-low.invariant in
    let at_most = clearing-at-most c.args.book.now c.grid.ensures.limits c.midpoint-middle.result (omega arith)
    (omega (arith, c.if-supply-demand.false, c.supply.ensures.value, c.demand.ensures.value)) in
    record { low = inv.low; high = at_most; within = omega arith }
