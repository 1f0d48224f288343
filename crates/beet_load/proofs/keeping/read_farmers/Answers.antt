use Rattle.std.proofs.Common.{arith}
use Rattle.beet_errand.proofs.Frame.{exits, forgotten, shown}
use Rattle.beet_load.proofs.KeptFarmers.{keeps_all, keeps_none, keeps_at, keeps_stopped_at}
use Rattle.beet_load.proofs.keeping.read_farmers.Goals as goal

pub loop-i-init : goal.loop-i-init
loop-i-init g c = rw c.new-farmers.ensures (keeps_none _ _ _ _)

pub returns-in_err-farmer : goal.returns-in_err-farmer
returns-in_err-farmer g c =
    exits c.from_residual.ensures.1 (keeps_stopped_at _ _ _ c.loop-i.i _ _ _ _ _ _
    (omega arith) c.index-entries-i.is c.list_of-given.ensures c.loop-i.invariant _
    c.in_err-farmer.ensures.reads)

pub returns-in_err-push : goal.returns-in_err-push
returns-in_err-push g c =
    exits c.from_residual-in_err-push.ensures.1 (keeps_stopped_at _ _ _ c.loop-i.i _ _ _ _ _ _ (omega arith) c.index-entries-i.is
    c.list_of-given.ensures c.loop-i.invariant {T = Unit {0}} {shows = λ done farmer. Unit {0}} _ (forgotten c.in_ok-farmer.ensures.reads))

pub loop-i-preserved : goal.loop-i-preserved
loop-i-preserved g c =
    let farmer = c.in_ok-farmer.ensures in
    keeps_at _ _ _ c.loop-i.i _ _ _ _ _ _ (omega arith) c.index-entries-i.is c.list_of-given.ensures c.loop-i.invariant
    _ (shown farmer.reads (record {
      is_farmer = record { curve = farmer.curve; of_grid = farmer.of_grid; words = record { enough = farmer.enough; kept = farmer.cut } };
      kept = c.in_ok-push.ensures;
    }))

pub returns : goal.returns
returns g c = keeps_all c.loop-i.i (omega arith) c.loop-i.invariant
