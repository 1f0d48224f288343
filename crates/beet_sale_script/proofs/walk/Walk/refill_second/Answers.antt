use Rattle.std.proofs.Common.{ap, sym, arith, ◌∙◌, ◌+◌, ◌∷◌, []}
use Rattle.beet_masking.specs.Blocks.{blocks_of}
use Rattle.beet_sale_plan.specs.Sale.{sum_let, rest_let}
use Rattle.beet_sale_plan.specs.Selections.{lets_before}
use Rattle.beet_sale_script.proofs.Batches.{masked-few, masked-second}
use Rattle.beet_sale_script.proofs.walk.Walk.refill_second.Goals as goal

pub put_before-requires : goal.put_before-requires
put_before-requires c =
    let w = c.args.self.now in
    let few = masked-few w.gates _ w.first _ _ c.refill_compare.new.batch c.refill_compare.ensures in
    omega (arith, few)

pub returns : goal.returns
returns c =
    let w = c.args.self.now in
    let g = blocks_of w.gates in
    let free = ap (λ n. w.first + n) c.mask_wires.ensures in
    let base = c.refill_compare.ensures in
    let best = c.best_wire-best.ensures in
    c.put_before.ensures
    ∙ (λ i. lets_before (w.next ∷ c.total.ensures i ∷ c.remainder.ensures i ∷ []) (base i))
    ∙ (λ i. lets_before (w.next ∷ sum_let w.bid w.product ∷ rest_let (best i) w.bid (free i + 1) ∷ [])
    (g.masked (free i + 3) w.first (free i) (free i + 2)))
    ∙ sym (masked-second w)
