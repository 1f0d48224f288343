use Rattle.beet_lots.proofs.LotLaws.{opens-own}
use Rattle.beet_lots.proofs.laws.each_lot_opens_its_own_outcome.Goals as goal

pub returns : goal.returns
returns c = opens-own
