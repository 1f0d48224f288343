use Rattle.beet_counterexamples.proofs.OtherEnvelopes.{same-bid}
use Rattle.beet_counterexamples.proofs.headline.the_same_words_seal_only_the_same_bid.Goals as goal

pub returns : goal.returns
returns c = same-bid
