use Rattle.std.proofs.Common.{◌≤◌, length, take}
use Rattle.std.specs.Io.KnownBytes.{Appends}
use Rattle.beet_store.proofs.host_desk.write_whole.Given as goal

-- the bytes up to `done` were written, at least one of them in each turn
abbrev pub invariant-loop-turn : goal.invariant-loop-turn
invariant-loop-turn g l = record {
  written : Appends (g.W.Write.contents l.initial.out) (g.W.Write.contents l.out) (take l.done l.bytes);
  within : l.done ≤ length l.bytes;
  turns : l._turn ≤ l.done;
}
