use Rattle.beet_job_replay.proofs.Replays.{TellsFirst}
use Rattle.beet_job_replay.proofs.telling.tell_lots.Given as goal

abbrev pub invariant-loop-i : goal.invariant-loop-i
invariant-loop-i l = TellsFirst l.fn.rows l.fn.world l.fn.grids l.i l.told
