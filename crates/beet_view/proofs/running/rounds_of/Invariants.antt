use Rattle.std.proofs.Common.{◌≡◌, ◌≤◌, length, vec_capacity}
use Rattle.beet_gates.specs.Each.{each}
use Rattle.beet_view.specs.RunViews.{round_received}
use Rattle.beet_view.proofs.running.rounds_of.Given as goal

abbrev pub invariant-loop-round : goal.invariant-loop-round
invariant-loop-round g l = record {
  so_far : l.rounds.items ≡ each (round_received l.core) l.round;
  end : l.round-end ≡ l.core.round;
  count : length l.rounds.items ≡ l.round;
  room : l.core.round ≤ vec_capacity l.rounds;
}
