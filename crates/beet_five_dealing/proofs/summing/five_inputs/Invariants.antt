use Rattle.std.proofs.Common.{take}
use Rattle.beet_book.specs.Farmers.{farmers_of}
use Rattle.beet_five_dealing.specs.FiveTotals.{HasDealtFive}
use Rattle.beet_five_dealing.proofs.summing.five_inputs.Given as goal

abbrev pub invariant-loop-k : goal.invariant-loop-k
invariant-loop-k l = record {
  dealt : HasDealtFive l.grid (take l.k (farmers_of l.bidders l.words)) l.totals;
}
