use Rattle.std.proofs.Common.{◌≡◌, length}
use Rattle.beet_map.specs.Agreement.{SameKnownBefore}
use Rattle.beet_sale_file.specs.declared.rows.SaleBid.{SaleBid}
use Rattle.beet_sale_map.proofs.agreeing.other_own_bid.Given as goal

abbrev pub invariant-loop-i : goal.invariant-loop-i
invariant-loop-i l = record {
  end : l.i-end ≡ length l.first;
  same : SameKnownBefore (λ (b : SaleBid). b.known) (λ (b : SaleBid). b.bid) l.me l.first l.second l.i;
}
