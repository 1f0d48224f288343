use Rattle.std.proofs.Common.{[], subst}
use Rattle.beet_gates.specs.Plans.{Plan}
use Rattle.beet_plan.specs.declared.Finish.{Finish}
use Rattle.beet_walk.specs.Places.{IsAt}
use Rattle.beet_search.specs.Walk.{plan_at, Fits}
use Rattle.beet_search.proofs.script.AuctionScriptScript3.begin.Goals as goal

pub returns : goal.returns
returns c = subst (λ (p : Plan Finish). IsAt Fits plan_at p 0 [] c.begin.result) c.start.ensures.plan c.begin.ensures
