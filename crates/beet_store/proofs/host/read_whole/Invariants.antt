use Rattle.std.proofs.Common.{◌≡◌, ◌≤◌, length, vec_len}
use Rattle.std.specs.Io.KnownBytes.{Consumes}
use Rattle.beet_store.proofs.host.read_whole.Given as goal

-- no more than the limit was read, and at least one byte in each turn
abbrev pub invariant-loop-turn : goal.invariant-loop-turn
invariant-loop-turn g l = record {
  consumed : Consumes (g.F.Read.remaining l.initial.file) (g.F.Read.remaining l.file) l.bytes.items;
  within : vec_len l.bytes ≤ l.limit;
  turns : l._turn ≤ vec_len l.bytes;
  piece : length l.piece ≡ 16384;
}
