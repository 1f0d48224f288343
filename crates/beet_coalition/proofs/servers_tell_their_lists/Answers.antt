use Rattle.beet_coalition.proofs.SumFacts.{five-deals, five-lists}
use Rattle.beet_coalition.proofs.servers_tell_their_lists.Goals as goal

pub returns-clause-lists : goal.returns-clause-lists
returns-clause-lists c = five-lists

pub returns-clause-deals : goal.returns-clause-deals
returns-clause-deals c = five-deals
