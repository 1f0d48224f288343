use Rattle.beet_errand.proofs.Frame.{bind, computed, exits, stopped}
use Rattle.beet_load.specs.WholeViews.{loaded_of}
use Rattle.beet_job_record.proofs.Recorded.{record_done}
use Rattle.beet_job_record.proofs.recording.record.Goals as goal

pub returns-in_err-whole-clause-reads : goal.returns-in_err-whole-clause-reads
returns-in_err-whole-clause-reads g c = exits c.from_residual.ensures.1 (stopped c.in_err-whole.ensures)

pub returns-clause-reads : goal.returns-clause-reads
returns-clause-reads g c = bind c.in_ok-whole.ensures (computed _ c.reply_for.ensures.reply c.reply_for.ensures.memory)

pub returns-clause-done : goal.returns-clause-done
returns-clause-done g c = record_done c.args.out.now (loaded_of c.in_ok-whole.whole) _ c.reply_for.ensures.reply
