use Rattle.beet_queue.proofs.Keeps.{takes}
use Rattle.beet_link.proofs.ends.LinkRx.take.Goals as goal

pub try_pop_as-requires-clause-rule : goal.try_pop_as-requires-clause-rule
try_pop_as-requires-clause-rule g c = takes _ _ _ c.self.invariant.1
