use Rattle.std.proofs.Common.{length, ap, arith, vec_capacity}
use Rattle.beet_server.proofs.engine.Engine.start.Goals as goal

pub invariant_of-result : goal.invariant_of-result
invariant_of-result g c = (
  rw c.requires.opened.0 (c.begin_run-place.ensures.sound 1 c.args.masks c.args.coefficients (vec_capacity c.args.opened)
      c.requires.masks_start c.requires.words (omega (arith, c.requires.numbers)) c.requires.opened.1 c.requires.counted),
  ap length c.new.ensures,
  rw c.requires.opened.0 c.begin_run-place.ensures.place,
)
