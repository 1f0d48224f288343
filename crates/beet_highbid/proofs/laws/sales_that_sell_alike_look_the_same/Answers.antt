use Rattle.beet_highbid.proofs.Pairs.{mapped-pair, pair-here, pair-there}
use Rattle.beet_highbid.proofs.laws.sales_that_sell_alike_look_the_same.Goals as goal

pub returns-clause-second : goal.returns-clause-second
returns-clause-second c = pair-there

pub returns-clause-first : goal.returns-clause-first
returns-clause-first c = pair-here

pub returns-clause-mapped : goal.returns-clause-mapped
returns-clause-mapped c = mapped-pair
