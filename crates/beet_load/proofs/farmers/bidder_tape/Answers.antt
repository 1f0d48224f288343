use Rattle.beet_errand.proofs.Frame.{exits, no_memory}
use Rattle.beet_load.proofs.farmers.bidder_tape.Goals as goal

pub returns-in_err-front-in-Some-clause-reads : goal.returns-in_err-front-in-Some-clause-reads
returns-in_err-front-in-Some-clause-reads g c = exits c.from_residual.ensures.1 no_memory

pub returns-in-None-clause-reads : goal.returns-in-None-clause-reads
returns-in-None-clause-reads g c = rw c.in-None.is c.source_tape.ensures.reads
