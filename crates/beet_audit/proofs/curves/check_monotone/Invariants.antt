use Rattle.std.proofs.Common.{◌<◌, ℕ}
use Rattle.beet_audit.specs.Audits.{IsStep, points_of_bidder, value_at}
use Rattle.beet_audit.proofs.StepFacts.{IsBefore}
use Rattle.beet_audit.proofs.curves.check_monotone.Given as goal

abbrev pub invariant-loop-place : goal.invariant-loop-place
invariant-loop-place l = record {
  steps : (k : ℕ) → k < l.place → IsStep l.prices (value_at (points_of_bidder l.views l.bidder)) k;
  before : IsBefore l.prices (value_at (points_of_bidder l.views l.bidder)) l.place l.before;
}
