use Rattle.std.proofs.Common.{arith}
use Rattle.beet_world.proofs.world.World.missing_of.Goals as goal

pub returns-clause-missing : goal.returns-clause-missing
returns-clause-missing g c = omega (
  arith,
  c.missing.ensures.missing,
  c.missing-2.ensures.missing,
  c.missing-3.ensures.missing,
  c.missing-4.ensures.missing,
  c.missing-5.ensures.missing,
  c.missing-6.ensures.missing,
)
