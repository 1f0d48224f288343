use Rattle.beet_headline.proofs.TwoServers.{envelopes-tell, views-tell}
use Rattle.beet_headline.proofs.two_servers_tell_every_bid.Goals as goal

pub returns-clause-views : goal.returns-clause-views
returns-clause-views c = views-tell

pub returns-clause-envelopes : goal.returns-clause-envelopes
returns-clause-envelopes c = envelopes-tell
