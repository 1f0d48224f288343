use Rattle.std.proofs.Common.{◌≤◌, ℕ}
use Rattle.beet_weights.specs.Quadratics.{IsServer}
use Rattle.beet_linear_sharing.specs.Runs.{Setup}
use Rattle.beet_five_server.specs.Fits.{IsRound}
use Rattle.beet_five_lockstep.specs.FiveLockstep.{AreSent, HasHanded}
use Rattle.beet_five_lockstep.proofs.take.Given as goal

abbrev pub invariant-loop-from : goal.invariant-loop-from
invariant-loop-from g l = record {
  low : 1 ≤ l.from;
  high : l.from ≤ 6;
  stands : (o : Setup) (script : g.row.S.Denot) (t s : ℕ) → IsServer s → IsRound o t → AreSent o t l.fn.sent →
      HasHanded g.S.Script.batch_of o script t 1 s l.fn.core → HasHanded g.S.Script.batch_of o script t l.from s l.core;
}
