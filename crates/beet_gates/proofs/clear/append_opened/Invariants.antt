use Rattle.std.proofs.Common.{◌≡◌, ◌++◌, map, take, drop, length, slice_index}
use Rattle.beet_gates.specs.Scripts.{WiresBelow}
use Rattle.beet_gates.proofs.clear.append_opened.Given as goal

abbrev pub invariant-loop-wire : goal.invariant-loop-wire
invariant-loop-wire l = record {
  so_far : l.opened.items ≡ l.initial.opened.items ++ map (slice_index l.wires) (take l.wire-index l.shown);
  below : WiresBelow (length l.wires) (drop l.wire-index l.shown);
}
