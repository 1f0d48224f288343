use Rattle.beet_errand.proofs.Frame.{bind, bound, computed, exits, stopped}
use Rattle.beet_run.proofs.BookRuns.{kept-many}
use Rattle.beet_job_rehearse.proofs.rehearsing.rehearse.Goals as goal

pub returns-in_err-loaded-clause-reads : goal.returns-in_err-loaded-clause-reads
returns-in_err-loaded-clause-reads g c = exits c.from_residual.ensures.1 (stopped c.in_err-loaded.ensures)

pub returns-in-Err-clause-reads : goal.returns-in-Err-clause-reads
returns-in-Err-clause-reads g c =
    bound c.in_ok-loaded.ensures (λ loaded kept. stopped (rw c.in-Err.is at c.read_deliveries-deliveries.ensures))

pub answer-requires : goal.answer-requires
answer-requires g c = kept-many c.in_ok-loaded.loaded c.in_ok-loaded.ensures.gives.0 c.in_ok-loaded.ensures.gives.1

pub returns-in-Ok-clause-reads : goal.returns-in-Ok-clause-reads
returns-in-Ok-clause-reads g c =
    bound c.in_ok-loaded.ensures (λ loaded kept. bind (rw c.in-Ok.is at c.read_deliveries-deliveries.ensures)
    (computed c.answer.result (rw c.as_slice.ensures.value at (c.answer.ensures.tells loaded kept)) c.answer.ensures.memory))
