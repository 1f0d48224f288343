use Rattle.beet_errand.proofs.Frame.{answered, exits, stopped}
use Rattle.beet_run.proofs.BookRuns.{kept-many}
use Rattle.beet_job_clear.proofs.clear.Goals as goal

pub returns-in_err-loaded-clause-reads : goal.returns-in_err-loaded-clause-reads
returns-in_err-loaded-clause-reads g c = exits c.from_residual.ensures.1 (stopped c.in_err-loaded.ensures)

pub reply_for-requires-clause-inputs : goal.reply_for-requires-clause-inputs
reply_for-requires-clause-inputs g c = λ lifetimes outlive.
    kept-many c.in_ok-loaded.loaded c.in_ok-loaded.ensures.gives.0 c.in_ok-loaded.ensures.gives.1

pub returns-clause-reads : goal.returns-clause-reads
returns-clause-reads g c = answered c.reply_for.result c.in_ok-loaded.ensures c.reply_for.ensures.memory c.reply_for.ensures.tells
