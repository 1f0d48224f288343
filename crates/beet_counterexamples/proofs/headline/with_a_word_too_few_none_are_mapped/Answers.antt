use Rattle.beet_counterexamples.proofs.FewWords.{none-mapped}
use Rattle.beet_counterexamples.proofs.headline.with_a_word_too_few_none_are_mapped.Goals as goal

pub returns : goal.returns
returns c = none-mapped
