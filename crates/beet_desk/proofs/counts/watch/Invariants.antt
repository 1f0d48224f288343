use Rattle.std.proofs.Common.{◌≡◌}
use Rattle.beet_desk.specs.Ends.{AreFirst}
use Rattle.beet_desk.specs.Counts.{IsTally}
use Rattle.beet_desk.proofs.counts.watch.Given as goal

abbrev pub invariant-loop : goal.invariant-loop
invariant-loop g l = record {
  queue : l.receiver.queue ≡ l.fn.rx.queue;
  notes : l.receiver.notes ≡ l.fn.rx.notes;
  first : AreFirst l.receiver.notes l.receiver.taken;
  counts : IsTally l.receiver.taken l.counts;
}
