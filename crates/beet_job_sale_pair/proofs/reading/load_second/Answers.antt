use Rattle.beet_errand.proofs.Frame.{bind, judges}
use Rattle.beet_job_sale_pair.proofs.Judged.{judged-holds}
use Rattle.beet_job_sale_pair.proofs.reading.load_second.Goals as goal

pub returns-clause-reads : goal.returns-clause-reads
returns-clause-reads g c =
    bind c.in_ok-bytes.ensures.reads (judges _ _ _ _ (rw c.as_slice.ensures.value at c.sale_with_gates.ensures.reads) c.judge.ensures)

pub returns-clause-same : goal.returns-clause-same
returns-clause-same g c = judged-holds _ _ _ _ c.sale_with_gates.ensures.same c.judge.ensures
