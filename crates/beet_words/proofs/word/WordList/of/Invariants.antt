use Rattle.std.proofs.Common.{take, All}
use Rattle.beet_words.specs.Words.{IsWord}
use Rattle.beet_words.proofs.word.WordList.of.Given as goal

abbrev pub invariant-loop-word : goal.invariant-loop-word
invariant-loop-word l = All IsWord (take l.word-index l.word-items)
