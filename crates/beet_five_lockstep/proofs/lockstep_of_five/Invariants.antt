use Rattle.std.proofs.Common.{◌≡◌, length}
use Rattle.beet_linear_sharing.specs.Runs.{Setup}
use Rattle.beet_five_lockstep.specs.FiveLockstep.{AreAtRound}
use Rattle.beet_five_lockstep.proofs.lockstep_of_five.Given as goal

abbrev pub invariant-loop-round : goal.invariant-loop-round
invariant-loop-round g l = record {
  count : length l.cores.items ≡ 5;
  end : (o : Setup) (script : g.row.S.Denot) → AreAtRound g.S.Script.batch_of o script 0 l.fn.cores.items →
      l._round-end ≡ g.S.Script.rounds_of script;
  stand : (o : Setup) (script : g.row.S.Denot) → AreAtRound g.S.Script.batch_of o script 0 l.fn.cores.items →
      AreAtRound g.S.Script.batch_of o script l._round l.cores.items;
}
