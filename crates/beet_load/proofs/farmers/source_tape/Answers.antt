use Rattle.beet_errand.proofs.Frame.{exits, no_memory}
use Rattle.beet_load.proofs.Cuts.{seed_cut}
use Rattle.beet_load.proofs.farmers.source_tape.Goals as goal

pub returns-in_err-of_seed-in-Seed-clause-reads : goal.returns-in_err-of_seed-in-Seed-clause-reads
returns-in_err-of_seed-in-Seed-clause-reads g c = exits c.from_residual.ensures.1 no_memory

pub returns-in-Tape-clause-reads : goal.returns-in-Tape-clause-reads
returns-in-Tape-clause-reads g c = rw c.in-Tape.is (rw c.as_str.ensures at c.read_tape_file.ensures.reads)

pub returns-in_ok-of_seed-in-Seed-clause-cut : goal.returns-in_ok-of_seed-in-Seed-clause-cut
returns-in_ok-of_seed-in-Seed-clause-cut g c = seed_cut _ _ _ _ c.in_ok-of_seed-in-Seed.ensures
