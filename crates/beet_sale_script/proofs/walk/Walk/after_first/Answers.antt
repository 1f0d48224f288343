use Rattle.std.proofs.Common.{arith, ◌≡◌, ◌+◌, ◌*◌, ap, length, ◌∙◌}
use Rattle.beet_masking.specs.Blocks.{blocks_of}
use Rattle.beet_sale_plan.specs.Sale.{best_lets, best_wire}
use Rattle.beet_sale_plan.specs.Selections.{result_wire}
use Rattle.beet_sale_script.specs.Walk.{selections_left}
use Rattle.beet_sale_script.specs.declared.walk.Stage.TheVariants.{FirstMasked}
use Rattle.beet_sale_script.proofs.Leads.{busy-at, first-after, one-best, widest}
use Rattle.beet_sale_script.proofs.walk.Walk.after_first.Goals as goal

pub returns-clause-fits : goal.returns-clause-fits
returns-clause-fits c =
    let f = c.requires.fits in
    let w = widest c.args.self.gates in
    let l = busy-at c.args.self FirstMasked c.requires.stage f.some in
    let u : selections_left c.args.self.stage c.args.self.left ≡ 2 * c.args.self.left =
    ap (λ s. selections_left s c.args.self.left) c.requires.stage in
    let one = one-best c.args.self.best in
    let from = c.compared_from-from.ensures.wire in
    record {
      some = l;
      few = f.few;
      spare = f.spare;
      wires = omega (arith, f.wires, w, u, l, one, from, c.mask_wires.ensures, c.result_wire-product.ensures);
      product = omega (arith, f.wires, w, u, l, one, from, c.mask_wires.ensures, c.result_wire-product.ensures);
      tail = omega (arith, f.wires, u, l, one, from, c.mask_wires.ensures);
    }

pub returns-clause-plan : goal.returns-clause-plan
returns-clause-plan c =
    let w = c.args.self in
    let g = blocks_of w.gates in
    let free = ap (λ n. w.first + n) c.mask_wires.ensures in
    let from = c.compared_from-from.ensures.wire ∙ ap (λ n. n + length (best_lets w.best)) free in
    let best = c.best_wire.ensures ∙ ap (best_wire w.best) free in
    let o = c.result_wire-product.ensures ∙ ap (result_wire g) from in
    first-after w c.requires.stage c.args.c _ _ _ _ from best (ap (λ n. n + 4) o) (ap (λ n. n + 4 + 2) o)
