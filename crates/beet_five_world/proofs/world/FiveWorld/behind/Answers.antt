use Rattle.std.proofs.Common.{◌+◌, arith, refl, subst, sym}
use Rattle.beet_five_world.proofs.MissingFacts.{IsLeast, least-more, least-one}
use Rattle.beet_five_world.proofs.world.FiveWorld.behind.Goals as goal

pub loop-at-init : goal.loop-at-init
loop-at-init g c = record {
  low = omega arith;
  high = omega arith;
  least = least-one c.args.self.now 1 c.round-least.result (omega arith, omega arith) c.core.result.now c.core.ensures
      c.round-least.ensures.value refl;
  few = c.round-least.ensures.few;
}

pub loop-at-preserved : goal.loop-at-preserved
loop-at-preserved g c =
    let l = c.loop-at in
    let inv = l.invariant in
    record {
      low = omega (arith, inv.low);
      high = omega (arith, c.loop-at-test.true);
      least = subst (IsLeast c.args.self.now (l.at + 1)) (sym c.min-least.ensures)
          (least-more c.args.self.now l.at c.round.result (omega (arith, inv.low), omega (arith, c.loop-at-test.true))
          c.core-in-loop-at.result.now c.core-in-loop-at.ensures c.round.ensures.value l.least inv.least);
      few = omega (arith, c.min-least.ensures, inv.few);
    }

pub returns-clause-least : goal.returns-clause-least
returns-clause-least g c = λ j s server there.
    c.loop-at.invariant.least.of_all j s server (omega (arith, server.1, c.loop-at-test.false, c.loop-at.invariant.high)) there

pub returns-clause-passed : goal.returns-clause-passed
returns-clause-passed g c = c.loop-at.invariant.least.of_one
