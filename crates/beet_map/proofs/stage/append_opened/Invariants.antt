use Rattle.std.proofs.Common.{◌≡◌, ◌++◌, map, take}
use Rattle.beet_sharing.specs.Runs.{opened_at}
use Rattle.beet_map.proofs.stage.append_opened.Given as goal

abbrev pub invariant-loop-wire : goal.invariant-loop-wire
invariant-loop-wire l = l.opened.items ≡ l.initial.opened.items ++ map (opened_at l.wires) (take l.wire-index l.shown)
