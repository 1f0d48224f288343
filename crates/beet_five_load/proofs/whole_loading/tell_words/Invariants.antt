use Rattle.std.proofs.Common.{take, All}
use Rattle.beet_words.specs.Words.{IsWord}
use Rattle.beet_five_load.proofs.whole_loading.tell_words.Given as goal

abbrev pub invariant-loop-list : goal.invariant-loop-list
invariant-loop-list l = All (λ list. All IsWord list) (take l.list-index l.lists)
