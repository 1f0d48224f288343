use Rattle.std.proofs.Common.{◌≡◌, ◌+◌, length, drop, vec_capacity}
use Rattle.beet_gates.specs.Clear.{with_lets}
use Rattle.beet_gates.specs.Scripts.{LetsBelow}
use Rattle.beet_server.proofs.parts.append_lets.Given as goal

abbrev pub invariant-loop-linear : goal.invariant-loop-linear
invariant-loop-linear l = record {
  rest : with_lets l.wires.items (drop l.linear-index l.lets) ≡ with_lets l.initial.wires.items l.lets;
  len : length l.wires.items ≡ length l.initial.wires.items + l.linear-index;
  below : LetsBelow (length l.wires.items) (drop l.linear-index l.lets);
  capacity : vec_capacity l.wires ≡ vec_capacity l.initial.wires;
}
