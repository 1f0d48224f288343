use Rattle.beet_errand.proofs.Frame.{bind, judges}
use Rattle.beet_load.proofs.FewBidders.{few_judged}
use Rattle.beet_load.proofs.books.read_entries.Goals as goal

pub returns-clause-reads : goal.returns-clause-reads
returns-clause-reads g c = bind c.in_ok-bytes.ensures.reads
    (judges _ _ _ _ (rw c.as_slice.ensures.value at c.read_book.ensures.reads) c.judge.ensures)

pub returns-clause-few : goal.returns-clause-few
returns-clause-few g c = few_judged _ _ _ c.read_book.ensures.few c.judge.ensures
