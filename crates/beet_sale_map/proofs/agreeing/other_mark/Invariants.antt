use Rattle.std.proofs.Common.{map}
use Rattle.beet_map.proofs.Disagreeing.{SameBefore}
use Rattle.beet_sale_file.specs.declared.rows.SaleBid.{SaleBid}
use Rattle.beet_sale_map.proofs.agreeing.other_mark.Given as goal

abbrev pub invariant-loop-i : goal.invariant-loop-i
invariant-loop-i l = record {
  same : SameBefore (map (λ (b : SaleBid). b.known) l.first) (map (λ (b : SaleBid). b.known) l.second) l.i;
}
