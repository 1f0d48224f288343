use Rattle.std.proofs.Common.{ℕ, arith, length-take, length-drop}
use Rattle.beet_store.proofs.WriteFacts.{write_next}
use Rattle.beet_store.proofs.host_desk.write_whole.Goals as goal

pub loop-turn-preserved : goal.loop-turn-preserved
loop-turn-preserved g c = record {
  written = write_next _ _ _ _ _ _ c.loop-turn.invariant.written c.in-Ok-write.ensures.bytes;
  within = omega (arith, length-take {A = ℕ}, length-drop {A = ℕ}, c.in-Ok-write.ensures.bound);
  turns = omega arith;
}
