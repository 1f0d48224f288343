use Rattle.std.proofs.Common.{All, ◌++◌, ap, subst, ◌∙◌, arith}
use Rattle.std.specs.List.{flat_map}
use Rattle.std.proofs.lemmas.Grind.{common_steps}
use Rattle.std.proofs.lemmas.List.Elements.{All-more}
use Rattle.std.proofs.lemmas.List.{take_all}
use Rattle.beet_view.proofs.writing.push_each.Goals as goal

pub loop-item-preserved : goal.loop-item-preserved
loop-item-preserved g c = record {
  file = grind (arith, common_steps);
  limits = All-more g.T.Item.limits_of c.args.items.now c.loop-item.item-index c.item-item.result c.loop-item-test.true
      c.loop-item.invariant.limits (rw (← c.item-item.is) c.in_ok-push.ensures.limits);
}

pub returns-clause-limits : goal.returns-clause-limits
returns-clause-limits g c = subst (All g.T.Item.limits_of) (take_all _ _ c.loop-item-test.false) c.loop-item.invariant.limits

pub returns-clause-bytes : goal.returns-clause-bytes
returns-clause-bytes g c =
    c.loop-item.invariant.file
    ∙ ap (λ items. c.args.file.now.items ++ flat_map g.T.Item.bytes_of items) (take_all _ _ c.loop-item-test.false)
