use Rattle.beet_errand.proofs.Frame.{bind, judges}
use Rattle.beet_job_replay.proofs.replaying.read_deliveries.Goals as goal

pub returns-clause-reads : goal.returns-clause-reads
returns-clause-reads g c =
    bind c.in_ok-bytes.ensures.reads (judges _ _ _ _ (rw c.as_slice.ensures.value at c.read_lot_schedule.ensures.reads) c.judge.ensures)
