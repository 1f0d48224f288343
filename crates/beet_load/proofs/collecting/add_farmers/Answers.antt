use Rattle.std.proofs.Common.{ap, arith}
use Rattle.beet_errand.proofs.Frame.{exits, no_memory, shown}
use Rattle.beet_load.proofs.Summing.{all_collected, collects_none, collected_at, stopped_at}
use Rattle.beet_load.proofs.collecting.add_farmers.Goals as goal

pub returns-in_err-totals : goal.returns-in_err-totals
returns-in_err-totals g c = exits c.from_residual.ensures.1 no_memory

pub loop-i-init : goal.loop-i-init
loop-i-init g c = rw c.in_ok-totals.ensures (collects_none _ _ _ _)

pub returns-in_err-farmer : goal.returns-in_err-farmer
returns-in_err-farmer g c =
    exits c.from_residual-in_err-farmer.ensures.1
    (stopped_at _ _ _ c.loop-i.i _ _ _ _ _ _ (omega arith) c.index-entries-i.is c.list_of-given.ensures
    c.loop-i.invariant _ (rw c.auction_wants-wanted.ensures at c.in_err-farmer.ensures.reads))

pub loop-i-preserved : goal.loop-i-preserved
loop-i-preserved g c =
    let farmer = c.in_ok-farmer.ensures in
    collected_at _ _ _ c.loop-i.i _ _ _ _ _ _ (omega arith) c.index-entries-i.is c.list_of-given.ensures c.loop-i.invariant _
    (shown (rw c.auction_wants-wanted.ensures at farmer.reads) (record {
      of_grid = farmer.of_grid;
      curve = farmer.curve;
      values = c.deal.ensures.values;
      prices = ap (λ t. t.prices) c.deal.ensures.sums;
    }))

pub returns : goal.returns
returns g c = all_collected c.loop-i.i (omega arith) (omega arith) c.loop-i.invariant
