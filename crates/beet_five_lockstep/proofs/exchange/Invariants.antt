use Rattle.std.proofs.Common.{◌≡◌, ◌≤◌, ◌+◌, ℕ, length}
use Rattle.beet_linear_sharing.specs.Runs.{Setup}
use Rattle.beet_five_server.specs.Fits.{IsRound}
use Rattle.beet_five_lockstep.specs.FiveLockstep.{AreAtRound, HasHanded, IsAtRound}
use Rattle.beet_five_lockstep.proofs.OneRound.{UpTo}
use Rattle.beet_five_lockstep.proofs.exchange.Given as goal

abbrev pub invariant-loop-k : goal.invariant-loop-k
invariant-loop-k g l = record {
  within : l.k ≤ 5;
  count : length l.cores.items ≡ 5;
  stand : (o : Setup) (script : g.row.S.Denot) (t : ℕ) → IsRound o t →
      AreAtRound g.S.Script.batch_of o script t l.fn.cores.items →
      UpTo (IsAtRound g.S.Script.batch_of o script (t + 1)) (HasHanded g.S.Script.batch_of o script t 1) l.k l.cores.items;
}
