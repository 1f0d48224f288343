use Rattle.std.proofs.Common.{map}
use Rattle.beet_bids.specs.declared.book.Bidder.{Bidder}
use Rattle.beet_map.proofs.Disagreeing.{SameBefore}
use Rattle.beet_two_books.proofs.agreeing.other_mark.Given as goal

abbrev pub invariant-loop-i : goal.invariant-loop-i
invariant-loop-i l = record {
  same : SameBefore (map (λ (b : Bidder). b.known) l.bidders) (map (λ (b : Bidder). b.known) l.others) l.i;
}
