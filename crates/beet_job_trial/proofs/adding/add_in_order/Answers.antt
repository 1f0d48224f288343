use Rattle.std.proofs.Common.{◌≡◌, ◌+◌, ◌-◌, Ok, arith}
use Rattle.beet_job_trial.proofs.Bidders.{adds-none, adds-second, stops, stops-at, tests-none, tests-second}
use Rattle.beet_job_trial.proofs.adding.add_in_order.Goals as goal

pub loop-i-init : goal.loop-i-init
loop-i-init c =
    let none : c.args.from - c.args.from ≡ 0 = omega arith in
    record {
      from = omega arith;
      tests = rw none (tests-none c.args.grid.now c.args.from);
      adds = rw none (adds-none c.args.grid.now c.args.from c.args.totals.now);
    }

pub loop-i-preserved : goal.loop-i-preserved
loop-i-preserved c =
    let inv = c.loop-i.invariant in
    let from = c.args.from in
    let i = c.loop-i.i in
    let part = c.in_ok-add_bidder.ensures in
    record {
      from = omega (arith, inv.from);
      tests = tests-second c.args.grid.now from (i - from) 1 i (i + 1 - from) (Ok tt) (omega (arith, inv.from))
          (omega (arith, inv.from)) inv.tests part.tests;
      adds = adds-second c.args.grid.now from (i - from) 1 i (i + 1 - from) _ _ _ (omega (arith, inv.from))
          (omega (arith, inv.from)) inv.adds part.adds;
    }

pub returns-in_err-add_bidder : goal.returns-in_err-add_bidder
returns-in_err-add_bidder c =
    stops c.from_residual.ensures.1
    (stops-at c.args.grid.now c.args.from c.args.count c.loop-i.i _ _ _ c.loop-i.invariant.from
    (omega arith) c.loop-i.invariant.tests c.in_err-add_bidder.ensures)

pub returns : goal.returns
returns c =
    let all : c.loop-i.i - c.args.from ≡ c.args.count = omega arith in
    record {
      tests = rw all at c.loop-i.invariant.tests;
      adds = rw all at c.loop-i.invariant.adds;
    }
