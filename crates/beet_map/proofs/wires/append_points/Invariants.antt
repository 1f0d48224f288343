use Rattle.std.proofs.Common.{◌≡◌, ◌++◌, take}
use Rattle.beet_map.specs.Secrets.{shares_of}
use Rattle.beet_map.proofs.wires.append_points.Given as goal

abbrev pub invariant-loop-line : goal.invariant-loop-line
invariant-loop-line l = l.wires.items ≡ l.initial.wires.items ++ shares_of (take l.line-index l.lines) l.at
