use Rattle.std.proofs.Common.{◌≡◌, ◌≤◌, ◌++◌, length, map, vec_capacity}
use Rattle.std.specs.Vec.Iter.{into_iter_items, into_iter_len}
use Rattle.beet_lots.specs.LotWorlds.{begun}
use Rattle.beet_lots.proofs.lots.LotWorld.of.Given as goal

abbrev pub invariant-loop-cores : goal.invariant-loop-cores
invariant-loop-cores g l = record {
  rest : l.yielded ++ into_iter_items l.cores-iterator ≡ l.fn.lots.items;
  made : l.worlds.items ≡ map (begun g.S.Script.rounds_of) l.yielded;
  room : length l.fn.lots.items ≤ vec_capacity l.worlds;
  left : into_iter_len l.cores-iterator ≡ length (into_iter_items l.cores-iterator);
}
