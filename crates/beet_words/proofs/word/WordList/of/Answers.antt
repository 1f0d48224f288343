use Rattle.std.proofs.Common.{arith}
use Rattle.std.proofs.lemmas.List.Elements.{All-more}
use Rattle.beet_words.specs.Words.{IsWord}
use Rattle.beet_words.proofs.word.WordList.of.Goals as goal

pub loop-word-preserved : goal.loop-word-preserved
loop-word-preserved c =
    let below : IsWord c.word-item.result = omega (arith, c.value-below.ensures.value, c.value-below.ensures.below) in
    All-more IsWord _ c.loop-word.word-index c.word-item.result c.loop-word-test.true c.loop-word.invariant (rw (← c.word-item.is) below)
