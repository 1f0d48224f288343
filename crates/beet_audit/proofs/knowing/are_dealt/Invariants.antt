use Rattle.std.proofs.Common.{◌≡◌, ◌<◌, ◌*◌, ℕ, slice_index}
use Rattle.beet_shamir.specs.Line.{points_of}
use Rattle.beet_book.specs.Dealing.{quantities}
use Rattle.beet_book.specs.Totals.{points_on}
use Rattle.beet_audit.specs.Audits.{points_of_bidder}
use Rattle.beet_audit.proofs.knowing.are_dealt.Given as goal

abbrev pub invariant-loop-n : goal.invariant-loop-n
invariant-loop-n l = record {
  end : l.n-end ≡ 2 * l.prices;
  dealt : (k : ℕ) → k < l.n → points_on (points_of_bidder l.views l.bidder) k
      ≡ points_of (slice_index (quantities l.curve) k) (slice_index l.slopes k);
}
