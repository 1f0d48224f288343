use Rattle.beet_counterexamples.proofs.OtherWords.{other-words}
use Rattle.beet_counterexamples.proofs.headline.without_places_there_are_other_words.Goals as goal

pub returns : goal.returns
returns c = other-words
