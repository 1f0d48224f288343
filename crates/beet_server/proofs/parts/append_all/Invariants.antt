use Rattle.std.proofs.Common.{◌≡◌, ◌+◌, ◌++◌, take, length, vec_capacity}
use Rattle.beet_server.proofs.parts.append_all.Given as goal

abbrev pub invariant-loop-number : goal.invariant-loop-number
invariant-loop-number l = record {
  items : l.list.items ≡ l.initial.list.items ++ take l.number-index l.numbers;
  len : length l.list.items ≡ length l.initial.list.items + l.number-index;
  capacity : vec_capacity l.list ≡ vec_capacity l.initial.list;
}
