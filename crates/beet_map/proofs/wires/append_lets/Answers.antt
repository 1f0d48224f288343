use Rattle.std.proofs.Common.{◌<◌, List, length, sym, ap, ◌∙◌, arith}
use Rattle.std.proofs.lemmas.List.{drop_more, drop_all}
use Rattle.beet_gates.specs.Clear.{with_lets}
use Rattle.beet_gates.specs.declared.Linear.{Linear}
use Rattle.beet_map.proofs.wires.append_lets.Goals as goal

pub loop-linear-preserved : goal.loop-linear-preserved
loop-linear-preserved c =
    let lets : List Linear = c.args.lets.now in
    let i = c.loop-linear.linear-index in
    let lt : i < length lets = omega arith in
    let behind = rw (← c.linear-item.is) at (drop_more lets i c.linear-item.result lt) in
    rw (c.in_ok-push.ensures.items, c.evaluate-point.ensures, c.as_slice.ensures.value)
    (sym (ap (with_lets c.loop-linear.wires.items) behind) ∙ c.loop-linear.invariant)

pub returns : goal.returns
returns c =
    sym (ap (with_lets c.loop-linear.wires.items) (drop_all c.loop-linear.linear-index c.args.lets.now (omega arith)))
    ∙ c.loop-linear.invariant
