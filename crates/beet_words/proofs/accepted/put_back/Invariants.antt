use Rattle.beet_words.proofs.WordLists.{Back}
use Rattle.beet_words.proofs.accepted.put_back.Given as goal

abbrev pub invariant-loop-word : goal.invariant-loop-word
invariant-loop-word l = Back l.words l.numbers l.back l.word-index l.place
