use Rattle.std.proofs.Common.{◌≡◌, ◌++◌, ap, ◌∙◌, arith, append-nil, append_assoc}
use Rattle.beet_gates.specs.Each.{each}
use Rattle.beet_gates.proofs.EachFacts.{each-zero, each-more}
use Rattle.beet_gates.specs.Draws.{draws_in}
use Rattle.beet_map.specs.Steps.{hidden_line}
use Rattle.beet_map.proofs.wires.append_hidden.Goals as goal

pub loop-k-init : goal.loop-k-init
loop-k-init c =
    let line = hidden_line c.args.act.now c.args.points.now c.args.word c.args.numbers.now c.args.drawn in
    record { lines = rw (each-zero line, append-nil); end = c.draws-k-end.ensures }

pub loop-k-preserved : goal.loop-k-preserved
loop-k-preserved c =
    let line = hidden_line c.args.act.now c.args.points.now c.args.word c.args.numbers.now c.args.drawn in
    let so_far = c.loop-k.invariant in
    record {
      lines = rw (c.in_ok-push.ensures.items, so_far.lines, c.secret.ensures, c.number_at.ensures, each-more line c.loop-k.k, append_assoc);
      end = so_far.end;
    }

pub returns : goal.returns
returns c =
    let line = hidden_line c.args.act.now c.args.points.now c.args.word c.args.numbers.now c.args.drawn in
    let so_far = c.loop-k.invariant in
    let end : c.loop-k.k ≡ draws_in c.args.act.now = omega (arith, so_far.end, c.loop-k.auto.k-end, c.loop-k-test.false) in
    so_far.lines ∙ ap (λ n. c.args.lines.now.items ++ each line n) end
