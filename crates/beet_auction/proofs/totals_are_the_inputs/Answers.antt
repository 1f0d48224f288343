use Rattle.std.proofs.Common.{refl}
use Rattle.beet_auction.proofs.Adding.{summed-none, summed-more}
use Rattle.beet_auction.proofs.totals_are_the_inputs.Goals as goal

pub returns-clause-none : goal.returns-clause-none
returns-clause-none c = summed-none

pub returns-clause-more : goal.returns-clause-more
returns-clause-more c = summed-more

pub returns-clause-inputs : goal.returns-clause-inputs
returns-clause-inputs c = λ prices farmers. refl
