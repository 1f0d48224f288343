use Rattle.beet_walk.proofs.PlaceFacts.{is-begun}
use Rattle.beet_walk.proofs.Place.begin.Goals as goal

pub returns : goal.returns
returns g c = is-begun g.W.PlanWalk.fits g.W.PlanWalk.plan_of c.args.walk c.requires
