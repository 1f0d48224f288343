use Rattle.beet_errand.proofs.Frame.{exits, no_memory}
use Rattle.beet_job_envelopes.proofs.sealing.read_source.Goals as goal

pub returns-in_err-of_seed-in-Seed-clause-reads : goal.returns-in_err-of_seed-in-Seed-clause-reads
returns-in_err-of_seed-in-Seed-clause-reads g c = exits c.from_residual.ensures.1 no_memory

pub returns-in-Tape-clause-reads : goal.returns-in-Tape-clause-reads
returns-in-Tape-clause-reads g c = rw c.in-Tape.is c.read_tape_file.ensures.reads
