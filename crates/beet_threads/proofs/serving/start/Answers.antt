use denote.Param.Send.{sendable}
use Rattle.std.proofs.sync.OnceLock.TheSendSync as lock
use Rattle.beet_threads.proofs.Crosses.{Serving-send}
use Rattle.beet_threads.proofs.serving.start.Goals as goal

pub spawn_with-requires-send-F : goal.spawn_with-requires-send-F
spawn_with-requires-send-F g c κs within = let b = c.type_bounds in search (sendable, lock.the_sync, Serving-send) depth 20
