use Rattle.std.proofs.Common.{take}
use Rattle.std.specs.Prelude.{All}
use Rattle.beet_words.specs.Words.{IsWord}
use Rattle.beet_five_map.proofs.wanted.look_at.Given as goal

abbrev pub invariant-loop-list : goal.invariant-loop-list
invariant-loop-list l = All (λ list. All IsWord list) (take l.list-index l.lists)
