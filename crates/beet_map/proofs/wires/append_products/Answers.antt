use Rattle.std.proofs.Common.{◌≡◌, ◌++◌, length, ap, ◌∙◌, arith, append-nil, append_assoc}
use Rattle.beet_gates.specs.Each.{each}
use Rattle.beet_gates.proofs.EachFacts.{each-zero, each-more}
use Rattle.beet_map.specs.Steps.{product_line}
use Rattle.beet_map.proofs.wires.append_products.Goals as goal

pub loop-k-init : goal.loop-k-init
loop-k-init c = rw (each-zero (product_line c.args.pairs.now c.args.wires.now c.args.numbers.now c.args.drawn), append-nil)

pub loop-k-preserved : goal.loop-k-preserved
loop-k-preserved c =
    let line = product_line c.args.pairs.now c.args.wires.now c.args.numbers.now c.args.drawn in
    rw (c.in_ok-push.ensures.items, c.loop-k.invariant, c.product.ensures, each-more line c.loop-k.k, append_assoc)

pub returns : goal.returns
returns c =
    let line = product_line c.args.pairs.now c.args.wires.now c.args.numbers.now c.args.drawn in
    let end : c.loop-k.k ≡ length c.args.pairs.now = omega (arith, c.loop-k.auto.k-end, c.loop-k-test.false) in
    c.loop-k.invariant ∙ ap (λ n. c.args.lines.now.items ++ each line n) end
