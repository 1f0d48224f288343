use Rattle.std.proofs.Common.{subst}
use Rattle.std.specs.Prelude.{All}
use Rattle.std.proofs.lemmas.List.{take_all}
use Rattle.std.proofs.lemmas.List.Elements.{All-more, All-nil}
use Rattle.beet_words.specs.Words.{IsWord}
use Rattle.beet_five_map.proofs.wanted.look_at.Goals as goal

pub loop-list-init : goal.loop-list-init
loop-list-init c = All-nil (λ list. All IsWord list)

pub loop-list-preserved : goal.loop-list-preserved
loop-list-preserved c =
    All-more (λ list. All IsWord list) c.args.lists.now c.loop-list.list-index c.list-item.result c.loop-list-test.true
    c.loop-list.invariant
    (subst (All IsWord) c.list-item.is (subst (All IsWord) c.as_slice-below.ensures.value c.as_slice-below.ensures.below))

pub returns : goal.returns
returns c =
    subst (All (λ list. All IsWord list)) (take_all c.loop-list.list-index c.args.lists.now c.loop-list-test.false)
    c.loop-list.invariant
