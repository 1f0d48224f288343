use Rattle.beet_lots.proofs.LotFacts.{alone}
use Rattle.beet_lots.proofs.laws.lots_do_not_touch_each_other.Goals as goal

pub returns : goal.returns
returns c = alone
