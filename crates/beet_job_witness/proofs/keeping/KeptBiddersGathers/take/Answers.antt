use Rattle.std.proofs.lemmas.Result.{on_ok_weaker}
use Rattle.beet_book.proofs.PointsAdded.{lengths-added}
use Rattle.beet_job_witness.proofs.KeepingSteps.{keeps-more}
use Rattle.beet_job_witness.proofs.keeping.KeptBiddersGathers.take.Goals as goal

pub add-requires : goal.add-requires
add-requires c = lengths-added c.args._grid.now c.requires.taken.0 _ _ c.requires.taken.1.sums c.requires.lengths

pub returns : goal.returns
returns c = λ bidders h.
    on_ok_weaker c.push_sealed.result
    (λ push. keeps-more c.args._grid.now bidders _ _ _ _ _ h c.requires.lengths c.add.ensures.sums (rw c.into_points.ensures at push))
    c.push_sealed.ensures
