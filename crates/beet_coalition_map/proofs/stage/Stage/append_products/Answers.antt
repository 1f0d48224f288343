use Rattle.std.proofs.Common.{◌≡◌, ◌++◌, ap, ◌∙◌, arith, append-nil, append_assoc}
use Rattle.beet_gates.specs.Each.{each}
use Rattle.beet_gates.proofs.EachFacts.{each-zero, each-more}
use Rattle.beet_gates.specs.Draws.{draws_in}
use Rattle.beet_coalition_map.specs.Steps.{dealing, product_by, run_of}
use Rattle.beet_coalition_map.proofs.stage.Stage.append_products.Goals as goal

pub loop-k-init : goal.loop-k-init
loop-k-init c =
    let rule = product_by (dealing c.args.masks.now c.args.numbers.now) (run_of c.args.self.now) c.args.act.now in
    record { given = rw (each-zero rule, append-nil); end = c.draws-k-end.ensures }

pub loop-k-preserved : goal.loop-k-preserved
loop-k-preserved c =
    let rule = product_by (dealing c.args.masks.now c.args.numbers.now) (run_of c.args.self.now) c.args.act.now in
    let so_far = c.loop-k.invariant in
    record {
      given = rw (c.in_ok-push.ensures.items, so_far.given, c.product.ensures, each-more rule c.loop-k.k, append_assoc);
      end = so_far.end;
    }

pub returns : goal.returns
returns c =
    let rule = product_by (dealing c.args.masks.now c.args.numbers.now) (run_of c.args.self.now) c.args.act.now in
    let so_far = c.loop-k.invariant in
    let end : c.loop-k.k ≡ draws_in c.args.act.now = omega (arith, so_far.end, c.loop-k.auto.k-end, c.loop-k-test.false) in
    so_far.given ∙ ap (λ n. c.args.given.now.items ++ each rule n) end
