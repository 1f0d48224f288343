use Rattle.beet_errand.proofs.Frame.{bind, judges}
use Rattle.beet_gathering.proofs.gathering.read_envelope_file.Goals as goal

pub returns-clause-reads : goal.returns-clause-reads
returns-clause-reads g c = bind c.in_ok-bytes.ensures.reads
    (judges _ _ _ _ (rw c.as_slice.ensures.value at c.read_envelope.ensures.reads) c.judge.ensures)
