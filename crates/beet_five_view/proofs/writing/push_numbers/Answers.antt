use Rattle.std.proofs.Common.{◌++◌, ap, ◌∙◌, arith}
use Rattle.std.specs.List.{flat_map}
use Rattle.std.proofs.lemmas.Grind.{common_steps}
use Rattle.std.proofs.lemmas.List.{take_all}
use Rattle.beet_words.specs.Fields.{number_bytes}
use Rattle.beet_five_view.proofs.writing.push_numbers.Goals as goal

pub loop-number-preserved : goal.loop-number-preserved
loop-number-preserved c = record { file = grind (arith, common_steps) }

pub returns : goal.returns
returns c =
    c.loop-number.invariant.file ∙ ap (λ items. c.args.file.now.items ++ flat_map number_bytes items)
    (take_all c.loop-number.number-index c.args.numbers.now c.loop-number-test.false)
