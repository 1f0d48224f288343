use Rattle.beet_headline.proofs.ThreeServers.{three-views-tell}
use Rattle.beet_headline.proofs.five.three_of_five_tell_every_bid.Goals as goal

pub returns : goal.returns
returns c = three-views-tell
