use Rattle.std.proofs.Common.{◌≡◌, ◌≤◌, ◌+◌, ◌*◌, ◌-◌, ◌/◌, length, min, vec_len, vec_capacity}
use Rattle.beet_words.specs.Fields.{number_at, times}
use Rattle.beet_words.proofs.Times.{onto}
use Rattle.beet_words.proofs.points.read_points.Given as goal

abbrev pub invariant-loop-k : goal.invariant-loop-k
invariant-loop-k l = record {
  read : onto l.points.items (times (l.count - l._k) (number_at l.bytes l.allowed) l.next)
      ≡ times l.count (number_at l.bytes l.allowed) l.at;
  within : l.next ≤ length l.bytes;
  place : l.next ≡ l.at + 8 * l._k;
  put : vec_len l.points ≡ l._k;
  room : min l.count ((length l.bytes - l.at) / 8) ≤ vec_capacity l.points;
}
