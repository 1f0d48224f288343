use Rattle.std.proofs.Common.{All}
use Rattle.std.proofs.lemmas.List.Elements.{All-more}
use Rattle.beet_words.specs.Words.{IsWord}
use Rattle.beet_five_load.proofs.whole_loading.tell_words.Goals as goal

pub loop-list-preserved : goal.loop-list-preserved
loop-list-preserved c =
    All-more (λ list. All IsWord list) c.args.lists.now c.loop-list.list-index c.list-item.result c.loop-list-test.true
    c.loop-list.invariant (rw (← c.list-item.is) (rw c.as_slice-below.ensures.value at c.as_slice-below.ensures.below))
