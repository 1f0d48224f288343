use Rattle.std.proofs.Common.{◌≡◌, ◌++◌}
use Rattle.beet_gates.specs.Each.{each}
use Rattle.beet_gates.specs.Draws.{draws_in}
use Rattle.beet_map.specs.Steps.{hidden_line}
use Rattle.beet_map.proofs.wires.append_hidden.Given as goal

abbrev pub invariant-loop-k : goal.invariant-loop-k
invariant-loop-k l = record {
  lines : l.lines.items ≡ l.initial.lines.items ++ each (hidden_line l.act l.points l.word l.numbers l.drawn) l.k;
  end : l.k-end ≡ draws_in l.act;
}
