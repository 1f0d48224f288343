use Rattle.beet_five_auction.proofs.WorldEnds.{world-ends}
use Rattle.beet_five_auction.proofs.five_servers_end_with_the_outcome.Goals as goal

pub returns : goal.returns
returns c = λ book o es old new b few are fit lead. world-ends book o b few are es old new fit lead
