use Rattle.std.proofs.Common.{◌≡◌, ◌++◌, take}
use Rattle.beet_coalition_map.specs.Steps.{points_at}
use Rattle.beet_coalition_map.proofs.stage.append_points.Given as goal

abbrev pub invariant-loop-polynomial : goal.invariant-loop-polynomial
invariant-loop-polynomial l =
    l.wires.items ≡ l.initial.wires.items ++ points_at (take l.polynomial-index l.given) l.at
