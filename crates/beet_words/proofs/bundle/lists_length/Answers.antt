use Rattle.std.proofs.Common.{length, arith, ap, sym, ◌∙◌}
use Rattle.std.specs.List.{sum_by}
use Rattle.std.proofs.lemmas.List.{take_all}
use Rattle.std.proofs.lemmas.List.Concat.{length-flat_map}
use Rattle.beet_words.specs.Bundles.{list_bytes}
use Rattle.beet_words.proofs.bundle.lists_length.Goals as goal

pub returns-clause-value : goal.returns-clause-value
returns-clause-value c =
    c.loop-list.invariant.summed
    ∙ ap (sum_by (λ list. length (list_bytes list))) (take_all c.loop-list.list-index c.args.lists.now (omega arith))
    ∙ sym (length-flat_map list_bytes c.args.lists.now)
