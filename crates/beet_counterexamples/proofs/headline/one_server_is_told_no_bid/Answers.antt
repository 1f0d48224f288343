use Rattle.beet_counterexamples.proofs.OneServer.{has-alone, sees-alone}
use Rattle.beet_counterexamples.proofs.headline.one_server_is_told_no_bid.Goals as goal

pub returns-clause-views : goal.returns-clause-views
returns-clause-views c = sees-alone

pub returns-clause-envelopes : goal.returns-clause-envelopes
returns-clause-envelopes c = has-alone
