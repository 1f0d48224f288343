use Rattle.std.proofs.Common.{◌≡◌, ◌+◌, ◌++◌, length, vec_capacity}
use Rattle.beet_gates.specs.Each.{each}
use Rattle.beet_server.proofs.parts.append_each.Given as goal

abbrev pub invariant-loop-k : goal.invariant-loop-k
invariant-loop-k g l = record {
  items : l.list.items ≡ l.initial.list.items ++ each (g.G.Given.made l.given l.opens) l.k;
  len : length l.list.items ≡ length l.initial.list.items + l.k;
  end : l.k-end ≡ g.G.Given.count l.given;
  capacity : vec_capacity l.list ≡ vec_capacity l.initial.list;
}
