use Rattle.std.proofs.Common.{◌+◌, ◌<◌, ◌≤◌, ℕ, arith, rules, vec_len, ap, refl, ◌∙◌}
use Rattle.beet_bids.specs.Lines.{begin_at}
use Rattle.beet_bids.specs.BidFiles.{held_line}
use Rattle.beet_bids.specs.declared.lines.Line.{Line}
use Rattle.beet_bids.proofs.HeldFacts.{curve_in-is, curve_in-of_grid, filled, held_between, begin_first, begin_rises, begin_past}
use Rattle.beet_bids.proofs.lines.curve_of.Goals as goal

nothing : Line
nothing = record { price = 0; buy = 0; sell = 0 }

pub loop-i-init : goal.loop-i-init
loop-i-init c =
    let first = begin_first c.args.grid.now c.args.lines.now nothing c.requires (omega arith) in
    record {
      buy = rw first c.in_ok-buy.ensures.items;
      sell = rw first c.in_ok-sell.ensures.items;
    }

pub loop-i-preserved : goal.loop-i-preserved
loop-i-preserved c =
    let from : ℕ = begin_at c.args.grid.now c.args.lines.now c.loop-i.i in
    let end : ℕ = begin_at c.args.grid.now c.args.lines.now (c.loop-i.i + 1) in
    let rise = begin_rises c.args.grid.now c.args.lines.now c.loop-i.i nothing c.requires c.loop-i-test.true in
    let held = λ (place : ℕ) (low : from ≤ place) (high : place < end).
    held_between c.args.grid.now c.args.lines.now c.loop-i.i place (record { price = 0; buy = 0; sell = 0 }) c.requires
    (omega arith) c.loop-i-test.true low high in
    record {
      buy = rw (c.in_ok-resize.ensures.items, c.begin-end.ensures)
          (filled (λ (place : ℕ). (held_line c.args.grid.now c.args.lines.now place).buy) c.loop-i.buy.items
          (vec_len c.loop-i.buy) from end _ (search rules) c.loop-i.invariant.buy rise
          (λ place low high. ap (λ (line : Line). line.buy) (held place low high)));
      sell = rw (c.in_ok-resize-2.ensures.items, c.begin-end.ensures)
          (filled (λ (place : ℕ). (held_line c.args.grid.now c.args.lines.now place).sell) c.loop-i.sell.items
          (vec_len c.loop-i.sell) from end _ (search rules) c.loop-i.invariant.sell rise
          (λ place low high. ap (λ (line : Line). line.sell) (held place low high)));
    }

pub known-requires : goal.known-requires
known-requires c =
    let end = begin_past c.args.grid.now c.args.lines.now c.loop-i.i c.loop-i-test.false in
    rw (c.loop-i.invariant.buy, c.loop-i.invariant.sell, end) (curve_in-is c.args.grid.now c.args.lines.now c.requires)

pub returns-clause-value : goal.returns-clause-value
returns-clause-value c =
    let end = begin_past c.args.grid.now c.args.lines.now c.loop-i.i c.loop-i-test.false in
    c.known.ensures ∙ rw (c.loop-i.invariant.buy, c.loop-i.invariant.sell, end) refl

pub returns-clause-of_grid : goal.returns-clause-of_grid
returns-clause-of_grid c =
    let end = begin_past c.args.grid.now c.args.lines.now c.loop-i.i c.loop-i-test.false in
    rw (c.known.ensures, c.loop-i.invariant.buy, c.loop-i.invariant.sell, end) (curve_in-of_grid c.args.grid.now c.args.lines.now)
