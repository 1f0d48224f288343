use Rattle.std.proofs.Common.{arith, ◌∙◌, ◌≡◌, ◌≢◌, ◌+◌, ◌∷◌, [], List, ℕ, sym, ap}
use Rattle.beet_gates.specs.declared.Batch.{Batch}
use Rattle.beet_gates.specs.declared.Linear.{Linear}
use Rattle.beet_masking.specs.Blocks.{blocks_of}
use Rattle.beet_sale_plan.specs.Sale.{best_wire, difference_let, less_let}
use Rattle.beet_sale_plan.specs.Selections.{multiplied, result_wire}
use Rattle.beet_sale_script.proofs.Batches.{rest-before, rest-end, rest-lets}
use Rattle.beet_sale_script.proofs.walk.Walk.refill_after_first.Goals as goal

pub set_products-requires-clause-lets : goal.set_products-requires-clause-lets
set_products-requires-clause-lets c =
    let g = c.args.self.now.gates in
    let e : c.args.step + 2 ≡ (blocks_of g).compare_rounds = omega (arith, c.if-step-compare_rounds.true, c.compare_rounds.ensures) in
    let few = rest-lets g c.args.from c.args.mask c.args.c c.args.step c.refill_compare.new.batch c.refill_compare.ensures e in
    omega (arith, few)

pub returns-then-step-compare_rounds : goal.returns-then-step-compare_rounds
returns-then-step-compare_rounds c =
    let w = c.args.self.now in
    let g = blocks_of w.gates in
    let e : c.args.step + 2 ≡ g.compare_rounds = omega (arith, c.if-step-compare_rounds.true, c.compare_rounds.ensures) in
    let o = result_wire g c.args.from in
    let best = best_wire w.best 0 in
    let lets : List Linear = w.who ∷ difference_let best w.bid ∷ less_let (o + 1) (w.bid + 1) ∷ [] in
    let pairs : List (ℕ × ℕ) = (o, o + 2) ∷ (o, o + 3) ∷ [] in
    let f : Batch → Batch = multiplied lets pairs in
    let at = c.result_wire-o.ensures in
    let d = c.difference.ensures ∙ ap (λ n. difference_let n w.bid) c.best_wire-best.ensures in
    let l = c.less.ensures ∙ ap (λ n. less_let (n + 1) (w.bid + 1)) at in
    let here : c.set_products.new.batch ≡ f c.refill_compare.new.batch =
    c.set_products.ensures
    ∙ (λ i. multiplied (w.who ∷ d i ∷ l i ∷ []) ((at i, at i + 2) ∷ (at i, at i + 3) ∷ []) c.refill_compare.new.batch) in
    here ∙ rest-end w.gates c.args.from c.args.mask c.args.c c.args.step c.refill_compare.new.batch c.refill_compare.ensures f e

pub returns-else-step-compare_rounds : goal.returns-else-step-compare_rounds
returns-else-step-compare_rounds c =
    let w = c.args.self.now in
    let g = blocks_of w.gates in
    let not : c.args.step + 2 ≢ g.compare_rounds = λ e. c.if-step-compare_rounds.false (e ∙ sym c.compare_rounds.ensures) in
    rest-before w.gates c.args.from c.args.mask c.args.c c.args.step c.refill_compare.new.batch c.refill_compare.ensures _ not
    c.requires.step
