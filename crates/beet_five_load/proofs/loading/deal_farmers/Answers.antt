use Rattle.std.proofs.Common.{arith}
use Rattle.beet_errand.proofs.Frame.{exits, no_memory}
use Rattle.beet_five_load.proofs.DealtFarmers.{deals-all, deals-more, deals-none, deals-stopped}
use Rattle.beet_five_load.proofs.loading.deal_farmers.Goals as goal

pub returns-in_err-totals : goal.returns-in_err-totals
returns-in_err-totals g c = exits c.from_residual.ensures.1 no_memory

pub loop-i-init : goal.loop-i-init
loop-i-init g c = deals-none _ _ _ _ c.in_ok-totals.ensures.begins

pub returns-in_err-farmer : goal.returns-in_err-farmer
returns-in_err-farmer g c =
    exits c.from_residual-in_err-farmer.ensures.1
    (deals-stopped _ _ c.loop-i.i _ _ _ _ _ (omega arith) c.index-entries-i.is c.loop-i.invariant _
    (rw c.five_wants-wanted.ensures at c.in_err-farmer.ensures.reads))

pub loop-i-preserved : goal.loop-i-preserved
loop-i-preserved g c =
    let farmer = c.in_ok-farmer.ensures in
    let wanted = c.five_wants-wanted.ensures in
    deals-more _ _ c.loop-i.i _ _ _ _ _ (omega arith) c.index-entries-i.is c.loop-i.invariant _ c.in_ok-farmer.farmer _
    (record {
      curve = farmer.curve;
      of_grid = farmer.of_grid;
      words = record { enough = rw wanted at farmer.enough; kept = rw wanted at farmer.cut };
    })
    (rw c.words.ensures.value at c.words.ensures.below) (rw c.words.ensures.value at c.deal.ensures) (rw wanted at farmer.reads)

pub returns : goal.returns
returns g c = deals-all _ _ c.loop-i.i _ _ _ (omega arith) c.loop-i.invariant
