use Rattle.std.proofs.Common.{◌++◌, ap, ◌∙◌, arith, take_all}
use Rattle.std.specs.List.{flat_map}
use Rattle.std.proofs.lemmas.Grind.{common_steps}
use Rattle.beet_words.specs.Bundles.{list_bytes}
use Rattle.beet_five_view.proofs.words.push_bidders.Goals as goal

pub loop-list-preserved : goal.loop-list-preserved
loop-list-preserved c = record { file = grind (arith, common_steps) }

pub returns : goal.returns
returns c =
    c.loop-list.invariant.file ∙ ap (λ items. c.args.file.now.items ++ flat_map list_bytes items)
    (take_all c.loop-list.list-index c.args.lists.now c.loop-list-test.false)
