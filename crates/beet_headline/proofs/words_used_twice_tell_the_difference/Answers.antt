use Rattle.beet_headline.proofs.Sealed.{slopes-told}
use Rattle.beet_headline.proofs.UsedTwice.{difference-seen}
use Rattle.beet_headline.proofs.words_used_twice_tell_the_difference.Goals as goal

pub returns-clause-envelopes : goal.returns-clause-envelopes
returns-clause-envelopes c = slopes-told

pub returns-clause-views : goal.returns-clause-views
returns-clause-views c = difference-seen
