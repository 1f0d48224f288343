use Rattle.std.proofs.Common.{◌-◌, ◌+◌, arith}
use Rattle.beet_plan.specs.Search.{path}
use Rattle.beet_two_books.proofs.Paths.{path-done, path-end, path-step}
use Rattle.beet_two_books.proofs.masks.path_to.Goals as goal

pub returns-then-low-high-clause-path : goal.returns-then-low-high-clause-path
returns-then-low-high-clause-path c =
    path-done c.loop-step.places.items (path c.args.grid.now.prices c.args.end) c.args.end
    (c.comparisons-step-end.result - c.loop-step._step) c.loop-step.low c.loop-step.high
    (omega arith) c.loop-step.invariant.rest

pub loop-step-preserved : goal.loop-step-preserved
loop-step-preserved c =
    let inv = c.loop-step.invariant in
    let step = path-step c.loop-step.places.items c.push.new.self.items
    (path c.args.grid.now.prices c.args.end) c.args.end (c.comparisons-step-end.result - c.loop-step._step)
    (c.comparisons-step-end.result - (c.loop-step._step + 1)) c.loop-step.low c.loop-step.high c.args.grid.now.prices c.half-between.result
    (omega arith) (omega arith) inv.upper inv.rest inv.within c.in_ok-push.ensures.items c.half-between.ensures in
    record { end = inv.end; upper = step.upper; limit = inv.limit; rest = step.rest; within = step.within }

pub returns-clause-path : goal.returns-clause-path
returns-clause-path c =
    path-end c.loop-step.places.items (path c.args.grid.now.prices c.args.end) c.args.end
    (c.comparisons-step-end.result - c.loop-step._step) c.loop-step.low c.loop-step.high
    (omega arith) c.loop-step.invariant.rest
