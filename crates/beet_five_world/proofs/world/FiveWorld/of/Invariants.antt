use Rattle.std.proofs.Common.{◌≡◌, ◌≤◌, ◌++◌, length, vec_capacity}
use Rattle.std.specs.Vec.Iter.{into_iter_items, into_iter_len}
use Rattle.beet_five_world.proofs.WorldFacts.{HaveBegun}
use Rattle.beet_five_world.proofs.world.FiveWorld.of.Given as goal

abbrev pub invariant-loop-core : goal.invariant-loop-core
invariant-loop-core g l = record {
  rest : l.yielded ++ into_iter_items l.core-iterator ≡ l.fn.cores.items;
  begun : HaveBegun g.S.Script.batch_of l.yielded l.members.items;
  room : length l.fn.cores.items ≤ vec_capacity l.members;
  left : into_iter_len l.core-iterator ≡ length (into_iter_items l.core-iterator);
}
