use Rattle.std.proofs.Common.{ap, arith, rules}
use Rattle.beet_bids.specs.Books.{Book}
use Rattle.beet_errand.proofs.Frame.{exits, no_memory}
use Rattle.beet_load.proofs.KeptFarmers.{bids_all, bids_none, bids_at, bids_stopped_at}
use Rattle.beet_load.proofs.curves.read_bids.Goals as goal

pub returns-in_err-bidders-clause-reads : goal.returns-in_err-bidders-clause-reads
returns-in_err-bidders-clause-reads g c = exits c.from_residual.ensures.1 no_memory

pub returns-in_err-curve-clause-reads : goal.returns-in_err-curve-clause-reads
returns-in_err-curve-clause-reads g c =
    exits c.from_residual-in_err-curve.ensures.1
    (bids_stopped_at _ _ c.loop-entry.entry-index _ _ _ _ _ (omega arith) c.entry-item.is c.loop-entry.invariant.kept _
    (rw c.as_str.ensures at c.in_err-curve.ensures.reads))

pub loop-entry-init : goal.loop-entry-init
loop-entry-init g c = record {
  kept = rw c.in_ok-bidders.ensures.items (bids_none _ _ _);
  count = search rules;
  room = omega (arith, c.in_ok-bidders.ensures.capacity);
}

pub loop-entry-preserved : goal.loop-entry-preserved
loop-entry-preserved g c =
    let inv = c.loop-entry.invariant in
    record {
      kept = bids_at _ _ c.loop-entry.entry-index _ _ _ _ _
          (omega arith) c.entry-item.is inv.kept c.in_ok-curve.curve _ c.in_ok-curve.ensures.of_grid
          (rw c.as_str.ensures at c.in_ok-curve.ensures.reads) c.push_reserved.ensures.items;
      count = search rules;
      room = omega (arith, inv.room, c.push_reserved.ensures.capacity);
    }

pub returns-clause-reads : goal.returns-clause-reads
returns-clause-reads g c =
    bids_all c.loop-entry.entry-index (λ book. book.bidders) c.in-Some.book
    (ap (λ (b : Book). b.bidders) c.in-Some.ensures.made.1) (omega arith) c.loop-entry.invariant.kept
