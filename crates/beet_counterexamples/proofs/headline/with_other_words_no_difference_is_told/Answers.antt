use Rattle.beet_counterexamples.proofs.OneServer.{no-difference}
use Rattle.beet_counterexamples.proofs.headline.with_other_words_no_difference_is_told.Goals as goal

pub returns : goal.returns
returns c = no-difference
