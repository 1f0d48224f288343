use Rattle.std.proofs.Common.{sym}
use Rattle.beet_errand.proofs.Frame.{given, no_memory}
use Rattle.beet_load.proofs.Cuts.{seeded_cut}
use Rattle.beet_load.proofs.servers.read_source.Goals as goal

pub returns-in-Ok-clause-reads : goal.returns-in-Ok-clause-reads
returns-in-Ok-clause-reads g c = rw c.in-Seed.is (given (sym c.in-Ok.ensures))

pub returns-in-Err-clause-reads : goal.returns-in-Err-clause-reads
returns-in-Err-clause-reads g c = no_memory

pub returns-in-Tapes-clause-reads : goal.returns-in-Tapes-clause-reads
returns-in-Tapes-clause-reads g c = rw c.in-Tapes.is (rw (c.as_str.ensures, c.as_str-in-Tapes.ensures) at c.read_tapes.ensures.reads)

pub returns-in-Ok-clause-cut : goal.returns-in-Ok-clause-cut
returns-in-Ok-clause-cut g c = seeded_cut c.args.wanted.now _ _ c.in-Ok.ensures
