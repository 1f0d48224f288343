use Rattle.beet_walk.proofs.PlaceFacts.{serves}
use Rattle.beet_walk.proofs.PlanWalk.batch.Goals as goal

pub refill-requires : goal.refill-requires
refill-requires g c =
    let w = g.Self.PlanWalk in
    let plan = w.plan_of c.args.self in
    (plan, serves w.fits w.plan_of plan c.args.done c.args.opened.now c.begin-place.result c.begin-place.ensures)

pub returns : goal.returns
returns g c =
    let w = g.Self.PlanWalk in
    let plan = w.plan_of c.args.self in
    c.refill.ensures.batch plan (serves w.fits w.plan_of plan c.args.done c.args.opened.now c.begin-place.result c.begin-place.ensures)
