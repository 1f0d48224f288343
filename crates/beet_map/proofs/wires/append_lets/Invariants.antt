use Rattle.std.proofs.Common.{◌≡◌, drop}
use Rattle.beet_gates.specs.Clear.{with_lets}
use Rattle.beet_map.proofs.wires.append_lets.Given as goal

abbrev pub invariant-loop-linear : goal.invariant-loop-linear
invariant-loop-linear l = with_lets l.wires.items (drop l.linear-index l.lets) ≡ with_lets l.initial.wires.items l.lets
