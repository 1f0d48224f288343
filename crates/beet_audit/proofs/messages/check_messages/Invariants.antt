use Rattle.std.proofs.Common.{◌≡◌, ◌<◌, ℕ, None}
use Rattle.beet_field.specs.Trio.{member}
use Rattle.beet_field.specs.declared.point.Point.{Point}
use Rattle.beet_plan.specs.Auction.{auction_batch}
use Rattle.beet_sharing.specs.Runs.{Setup}
use Rattle.beet_server.specs.Lockstep.{IsAtRound}
use Rattle.beet_audit.specs.Audits.{RoundMessages}
use Rattle.beet_audit.proofs.messages.check_messages.Given as goal

abbrev pub invariant-loop-round : goal.invariant-loop-round
invariant-loop-round l = record {
  end : l.round-end ≡ l.cores.one.round;
  right : (o : Setup) (rounds : ℕ) → ((s : Point) → IsAtRound auction_batch o rounds s (member l.cores s)) → (k : ℕ) →
      k < l.round → k < rounds → RoundMessages o l.views k None;
}
