use Rattle.std.proofs.Common.{◌≡◌, take, length}
use Rattle.beet_server.proofs.parts.put_all.Given as goal

abbrev pub invariant-loop-number : goal.invariant-loop-number
invariant-loop-number l = record {
  so_far : l.numbers.items ≡ take l.number-index l.all;
  len : length l.numbers.items ≡ l.number-index;
}
