use Rattle.beet_errand.proofs.Frame.{bind, computed, exits, stopped}
use Rattle.beet_job_sale.proofs.running.sale.Goals as goal

pub returns-in_err-read-clause-reads : goal.returns-in_err-read-clause-reads
returns-in_err-read-clause-reads g c = exits c.from_residual.ensures.1 (stopped c.in_err-read.ensures)

pub returns-clause-reads : goal.returns-clause-reads
returns-clause-reads g c = bind c.in_ok-read.ensures (computed _ c.tell_sale-reply.ensures.tells c.tell_sale-reply.ensures.memory)
