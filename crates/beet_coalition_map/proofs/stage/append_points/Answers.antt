use Rattle.std.proofs.Common.{◌<◌, List, length, sym, arith, append-nil, append_assoc}
use Rattle.std.proofs.lemmas.List.{map_more, take_all}
use Rattle.beet_weights.specs.Quadratics.{point_of}
use Rattle.beet_weights.specs.declared.Quadratic.{Quadratic}
use Rattle.beet_coalition_map.proofs.stage.append_points.Goals as goal

pub loop-polynomial-init : goal.loop-polynomial-init
loop-polynomial-init c = sym (append-nil _)

pub loop-polynomial-preserved : goal.loop-polynomial-preserved
loop-polynomial-preserved c =
    let given : List Quadratic = c.args.given.now in
    let i = c.loop-polynomial.polynomial-index in
    let lt : i < length given = omega arith in
    let more = map_more (λ (x : Quadratic). point_of x.value x.first x.second c.args.at) given i c.polynomial-item.result lt in
    rw (c.in_ok-push.ensures.items, c.loop-polynomial.invariant, c.at.ensures, more, append_assoc, ← c.polynomial-item.is)

pub returns : goal.returns
returns c = rw (take_all c.loop-polynomial.polynomial-index c.args.given.now (omega arith)) at c.loop-polynomial.invariant
