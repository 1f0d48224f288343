use Rattle.std.proofs.Common.{sym, ap, subst, ◌∙◌}
use Rattle.beet_coalition_map.specs.Begins.{Begins}
use Rattle.beet_coalition_map.specs.Steps.{HasEnough}
use Rattle.beet_coalition_map.proofs.walk.step.Goals as goal

pub act-requires-2 : goal.act-requires-2
act-requires-2 c =
    let masks = c.as_slice-first.ensures.value ∙ ap (λ (b : Begins). b.masks) c.begins.view_is in
    let masks' = c.as_slice-second.ensures.value ∙ ap (λ (b : Begins). b.masks) c.others.view_is in
    let here = c.in_ok-add_lets.ensures in
    let there = c.in_ok-add_lets-2.ensures in
    subst (HasEnough c.args.batch.now.act c.move_batch.new.numbers) (sym there)
    (c.requires.second c.move_batch.new.numbers (rw (masks, here, masks', there) at c.move_batch.ensures))
