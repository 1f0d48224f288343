use Rattle.std.proofs.Common.{arith, ◌∙◌, ◌<◌, length}
use Rattle.std.proofs.lemmas.List.{drop_all}
use Rattle.beet_walk.proofs.PlaceFacts.{finishes-on}
use Rattle.beet_walk.proofs.PlanWalk.after_all.Goals as goal

pub loop-number-preserved : goal.loop-number-preserved
loop-number-preserved g c =
    let w = g.Self.PlanWalk in
    let i = c.loop-number.number-index in
    let opened = c.args.opened.now in
    let h : i < length opened = omega arith in
    record {
      fits = c.after-walk.ensures.fits;
      rest =
          finishes-on (w.plan_of c.loop-number.walk) (w.plan_of c.after-walk.result) i opened h
          c.number-item.result c.number-item.is c.after-walk.ensures.plan
          ∙ c.loop-number.invariant.rest;
    }

pub returns-clause-finish : goal.returns-clause-finish
returns-clause-finish g c =
    rw (drop_all c.loop-number.number-index c.args.opened.now c.loop-number-test.false) at c.loop-number.invariant.rest
