use Rattle.std.proofs.Common.{◌≡◌, ◌++◌, map, slice_index, take}
use Rattle.beet_weights.specs.Quadratics.{recombined}
use Rattle.beet_coalition.specs.Lists.{at_server}
use Rattle.beet_coalition_map.proofs.stage.append_opened.Given as goal

abbrev pub invariant-loop-wire : goal.invariant-loop-wire
invariant-loop-wire l =
    l.opened.items
    ≡ l.initial.opened.items ++ map (λ w. recombined (λ i. slice_index (at_server l.wires i) w)) (take l.wire-index l.shown)
