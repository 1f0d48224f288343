use Rattle.std.proofs.Common.{◌≡◌, ◌≤◌, ◌-◌, length}
use Rattle.beet_words.proofs.Times.{onto}
use Rattle.beet_view.specs.Transcripts.{start_of, quantities_at}
use Rattle.beet_view.proofs.quantities.Course.read.Given as goal

abbrev pub invariant-loop-k : goal.invariant-loop-k
invariant-loop-k l = record {
  read : onto l.quantities.items (quantities_at l.bytes l.self (l.count - l._k) l.before l.next)
      ≡ quantities_at l.bytes l.self l.count (start_of l.self) l.at;
  within : l.next ≤ length l.bytes;
}
