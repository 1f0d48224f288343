use Rattle.beet_book.proofs.PointsAdded.{added-more, lengths-added}
use Rattle.beet_gathering.proofs.gathering.TotalsGathers.take.Goals as goal

pub add-requires : goal.add-requires
add-requires c = lengths-added c.args._grid.now c.requires.taken.0 _ _ c.requires.taken.1 c.requires.lengths

pub returns : goal.returns
returns c = λ bidders h. added-more c.args._grid.now bidders _ _ _ h c.requires.lengths c.add.ensures.sums
