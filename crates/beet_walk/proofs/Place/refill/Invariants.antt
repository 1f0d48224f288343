use Rattle.std.proofs.Common.{length, ◌-◌, ◌≤◌}
use Rattle.beet_gates.specs.Plans.{Plan}
use Rattle.beet_walk.specs.Places.{IsAt}
use Rattle.beet_walk.proofs.Place.refill.Given as goal

abbrev pub invariant-loop-self : goal.invariant-loop-self
invariant-loop-self g l = record {
  fits : g.W.PlanWalk.fits l.self.walk;
  passed : l.self.before ≤ l.done;
  there : (whole : Plan g.row.W-Finish.Denot) →
      IsAt g.W.PlanWalk.fits g.W.PlanWalk.plan_of whole l.done l.opened l.initial.self →
      IsAt g.W.PlanWalk.fits g.W.PlanWalk.plan_of whole l.done l.opened l.self;
}

abbrev pub decreases-loop-self : goal.decreases-loop-self
decreases-loop-self g l = length l.opened - l.self.read
