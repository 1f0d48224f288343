use Rattle.std.proofs.Common.{arith, ◌∙◌, ◌<◌, ◌≤◌, ◌-◌}
use Rattle.beet_gates.specs.Plans.{plan_length}
use Rattle.beet_walk.proofs.PlaceFacts.{batch-before, batch-behind, walks-on}
use Rattle.beet_walk.proofs.Place.refill.Goals as goal

pub loop-self-init : goal.loop-self-init
loop-self-init g c = record {
  fits = c.requires.1.fits;
  passed = c.requires.1.there.passed;
  there = λ whole here. here;
}

pub returns-then-step-length-clause-batch : goal.returns-then-step-length-clause-batch
returns-then-step-length-clause-batch g c = λ whole here.
    let w = g.W.PlanWalk in
    let place = c.loop-self.self in
    let short : c.args.done - place.before < plan_length (w.plan_of place.walk) = omega (arith, c.length-length.ensures) in
    c.refill.ensures
    ∙ batch-before w.fits w.plan_of whole c.args.done c.args.opened.now place (c.loop-self.invariant.there whole here)
    c.loop-self-test.true short

pub returns-clause-batch : goal.returns-clause-batch
returns-clause-batch g c = λ whole here.
    let w = g.W.PlanWalk in
    c.refill-2.ensures
    ∙ batch-behind w.fits w.plan_of whole c.args.done c.args.opened.now c.loop-self.self (c.loop-self.invariant.there whole here)
    c.loop-self-test.false

pub loop-self-preserved : goal.loop-self-preserved
loop-self-preserved g c =
    let w = g.W.PlanWalk in
    let place = c.loop-self.self in
    let past : plan_length (w.plan_of place.walk) ≤ c.args.done - place.before = omega (arith, c.length-length.ensures) in
    record {
      fits = c.after-self.ensures.fits;
      passed = omega arith;
      there = λ whole here.
          rw c.length-length.ensures
          (walks-on w.fits w.plan_of whole c.args.done c.args.opened.now place (c.loop-self.invariant.there whole here)
          c.index-opened-self.result c.loop-self-test.true c.index-opened-self.is
          past c.after-self.result c.after-self.ensures.fits c.after-self.ensures.plan);
    }
