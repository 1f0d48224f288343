use Rattle.std.proofs.Common.{◌<◌, List, length, sym, arith, append-nil, append_assoc}
use Rattle.std.proofs.lemmas.List.{map_more, take_all}
use Rattle.beet_shamir.specs.Line.{point_of}
use Rattle.beet_shamir.specs.declared.Line.{Line}
use Rattle.beet_map.proofs.wires.append_points.Goals as goal

pub loop-line-init : goal.loop-line-init
loop-line-init c = sym (append-nil _)

pub loop-line-preserved : goal.loop-line-preserved
loop-line-preserved c =
    let lines : List Line = c.args.lines.now in
    let i = c.loop-line.line-index in
    let lt : i < length lines = omega arith in
    let more = map_more (λ (l : Line). point_of l.value l.slope c.args.at) lines i c.line-item.result lt in
    rw (c.in_ok-push.ensures.items, c.loop-line.invariant, c.at.ensures, more, append_assoc, ← c.line-item.is)

pub returns : goal.returns
returns c =
    let all = rw (take_all c.loop-line.line-index c.args.lines.now (omega arith)) at c.loop-line.invariant in
    rw (← c.in_ok-reserve.ensures.items) all
