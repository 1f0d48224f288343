use Rattle.std.proofs.Common.{length, arith, ap}
use Rattle.beet_audit.proofs.PartFacts.{elements-all, judges-all, sums-all}
use Rattle.beet_audit.proofs.bidders.sum_bidders.Goals as goal

pub sum_in_parts-requires-clause-can : goal.sum_in_parts-requires-clause-can
sum_in_parts-requires-clause-can g c = λ lifetimes outlive. record {
  within = omega (arith, ap length c.bidders-count.ensures.value);
  fit = c.requires.fit;
  limits = c.requires.limits;
}

pub returns-clause-bidders : goal.returns-clause-bidders
returns-clause-bidders g c =
    judges-all c.args.grid.now c.args.views.now _ c.sum_in_parts.result (ap length c.bidders-count.ensures.value)
    c.sum_in_parts.ensures

pub returns-clause-elements : goal.returns-clause-elements
returns-clause-elements g c =
    elements-all c.args.grid.now c.args.views.now _ c.sum_in_parts.result (ap length c.bidders-count.ensures.value)
    c.sum_in_parts.ensures

pub returns-clause-sums : goal.returns-clause-sums
returns-clause-sums g c =
    sums-all c.args.grid.now c.args.views.now _ c.sum_in_parts.result (ap length c.bidders-count.ensures.value)
    c.sum_in_parts.ensures
