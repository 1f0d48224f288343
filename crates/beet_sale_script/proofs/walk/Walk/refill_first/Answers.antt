use Rattle.std.proofs.Common.{ap, arith, ◌∙◌, ◌+◌, ◌∷◌, []}
use Rattle.beet_gates.specs.Linears.{one_term}
use Rattle.beet_sale_plan.specs.Selections.{lets_before}
use Rattle.beet_sale_script.proofs.Batches.{made-first, masked-few, first-made, none-first}
use Rattle.beet_sale_script.proofs.walk.Walk.refill_first.Goals as goal

pub put_before-requires : goal.put_before-requires
put_before-requires c =
    let w = c.args.self.now in
    let few = masked-few w.gates _ w.first _ _ c.refill_compare.new.batch c.refill_compare.ensures in
    omega (arith, few)

pub returns-in-None : goal.returns-in-None
returns-in-None c =
    let w = c.args.self.now in
    let made =
    first-made w (w.first + c.mask_wires.result) c.compared_from-from.result c.best_wire-left.result c.refill_compare.new.batch in
    c.put_before.ensures
    ∙ (λ i. lets_before (c.sum.ensures i ∷ []) c.refill_compare.new.batch)
    ∙ made (one_term 0 (1, 0) ∷ []) (ap (λ n. w.first + n) c.mask_wires.ensures) c.compared_from-from.ensures.wire
    c.best_wire-left.ensures c.refill_compare.ensures (made-first w.best c.in-None.is)

pub returns-in-Some : goal.returns-in-Some
returns-in-Some c =
    let w = c.args.self.now in
    first-made w (w.first + c.mask_wires.result) c.compared_from-from.result c.best_wire-left.result c.refill_compare.new.batch []
    (ap (λ n. w.first + n) c.mask_wires.ensures) c.compared_from-from.ensures.wire c.best_wire-left.ensures
    c.refill_compare.ensures (none-first w.best c.in-Some.field-0 c.in-Some.is)
