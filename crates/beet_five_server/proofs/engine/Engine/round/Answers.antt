use Rattle.std.proofs.Common.{arith}
use Rattle.beet_five_server.proofs.engine.Engine.round.Goals as goal

pub returns-clause-few : goal.returns-clause-few
returns-clause-few g c = omega (arith, c.self.invariant.0.few, c.self.invariant.3)
