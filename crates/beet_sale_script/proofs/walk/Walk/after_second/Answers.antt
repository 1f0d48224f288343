use Rattle.std.proofs.Common.{◌+◌, ap, refl, ◌∙◌}
use Rattle.beet_masking.specs.Blocks.{blocks_of}
use Rattle.beet_sale_plan.specs.Sale.{sum_let}
use Rattle.beet_sale_plan.specs.Selections.{result_wire}
use Rattle.beet_sale_script.proofs.Leads.{second-after}
use Rattle.beet_sale_script.proofs.walk.Walk.after_second.Goals as goal

pub returns-clause-plan : goal.returns-clause-plan
returns-clause-plan c =
    let g = blocks_of c.args.self.gates in
    let free = ap (λ n. c.args.self.first + n) c.mask_wires.ensures in
    let o = c.result_wire-product.ensures ∙ ap (λ n. result_wire g (n + 3)) free in
    second-after c.args.self c.requires.stage c.args.c _ _ _ _ _ _ free refl (ap (λ n. n + 2 + 1) o) (ap (λ n. n + 1) free)
    c.sum.ensures (c.total.ensures ∙ (λ i. sum_let (free i + 2) (o i + 2)))
