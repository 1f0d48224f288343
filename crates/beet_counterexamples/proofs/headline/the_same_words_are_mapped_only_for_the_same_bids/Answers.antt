use Rattle.beet_counterexamples.proofs.SameWords.{same-bids}
use Rattle.beet_counterexamples.proofs.headline.the_same_words_are_mapped_only_for_the_same_bids.Goals as goal

pub returns : goal.returns
returns c = same-bids
