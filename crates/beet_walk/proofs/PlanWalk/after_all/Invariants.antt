use Rattle.std.proofs.Common.{◌≡◌, drop}
use Rattle.beet_gates.specs.Plans.{plan_finish}
use Rattle.beet_walk.proofs.PlanWalk.after_all.Given as goal

abbrev pub invariant-loop-number : goal.invariant-loop-number
invariant-loop-number g l = record {
  fits : g.Self.PlanWalk.fits l.walk;
  rest : plan_finish (g.Self.PlanWalk.plan_of l.walk) (drop l.number-index l.opened)
      ≡ plan_finish (g.Self.PlanWalk.plan_of l.fn.self) l.opened;
}
