use Rattle.std.proofs.Common.{◌≡◌, map, take, drop, length, slice_index}
use Rattle.beet_gates.specs.Scripts.{WiresBelow}
use Rattle.beet_server.proofs.parts.pick.Given as goal

abbrev pub invariant-loop-wire : goal.invariant-loop-wire
invariant-loop-wire l = record {
  so_far : l.numbers.items ≡ map (slice_index l.wires) (take l.wire-index l.shown);
  len : length l.numbers.items ≡ l.wire-index;
  below : WiresBelow (length l.wires) (drop l.wire-index l.shown);
}
