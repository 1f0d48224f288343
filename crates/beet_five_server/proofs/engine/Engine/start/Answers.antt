use Rattle.std.proofs.Common.{arith, vec_capacity}
use Rattle.beet_five_server.proofs.engine.Engine.start.Goals as goal

pub invariant_of-result : goal.invariant_of-result
invariant_of-result g c = (
  rw c.requires.opened.0 (c.begin_run-place.ensures.sound 2 c.args.masks c.args.coefficients (vec_capacity c.args.opened)
      c.requires.masks_start c.requires.words c.requires.numbers c.requires.opened.1 (omega (arith, c.requires.counted))),
  rw c.requires.opened.0 c.begin_run-place.ensures.place,
  c.requires.opened.0,
  c.requires.counted,
)
