use Rattle.std.proofs.Common.{◌≡◌, ◌<◌, ◌+◌, ℕ, slice_index}
use Rattle.beet_audit.specs.Audits.{points_of_bidder, value_at}
use Rattle.beet_audit.proofs.knowing.is_recombined.Given as goal

abbrev pub invariant-loop-place : goal.invariant-loop-place
invariant-loop-place l = record {
  buy : (k : ℕ) → k < l.place → slice_index l.curve.buy k ≡ value_at (points_of_bidder l.views l.bidder) k;
  sell : (k : ℕ) → k < l.place → slice_index l.curve.sell k ≡ value_at (points_of_bidder l.views l.bidder) (l.prices + k);
}
