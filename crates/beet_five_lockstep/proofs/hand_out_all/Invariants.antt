use Rattle.std.proofs.Common.{◌≡◌, ◌≤◌, ℕ, Some, length}
use Rattle.beet_linear_sharing.specs.Runs.{Setup}
use Rattle.beet_five_server.specs.Fits.{IsRound, messages_from}
use Rattle.beet_five_lockstep.specs.FiveLockstep.{AreAtRound, HasHanded, IsAtRound}
use Rattle.beet_five_lockstep.proofs.OneRound.{UpTo}
use Rattle.beet_five_lockstep.proofs.hand_out_all.Given as goal

abbrev pub invariant-loop-k : goal.invariant-loop-k
invariant-loop-k g l = record {
  within : l.k ≤ 5;
  count : length l.cores.items ≡ 5;
  room : length l.sent ≡ 5;
  stand : (o : Setup) (script : g.row.S.Denot) (t : ℕ) → IsRound o t →
      AreAtRound g.S.Script.batch_of o script t l.fn.cores.items →
      UpTo (HasHanded g.S.Script.batch_of o script t 1) (IsAtRound g.S.Script.batch_of o script t) l.k l.cores.items;
  sent : (o : Setup) (script : g.row.S.Denot) (t : ℕ) → IsRound o t →
      AreAtRound g.S.Script.batch_of o script t l.fn.cores.items →
      UpTo (λ j messages. messages ≡ Some (messages_from o j t)) (λ j messages. messages ≡ messages) l.k l.sent;
}
