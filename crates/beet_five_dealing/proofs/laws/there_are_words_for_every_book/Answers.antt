use Rattle.beet_five_dealing.proofs.Zeros.{zeros-run}
use Rattle.beet_five_dealing.proofs.laws.there_are_words_for_every_book.Goals as goal

pub returns : goal.returns
returns c = zeros-run
