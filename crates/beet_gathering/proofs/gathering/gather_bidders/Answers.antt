use Rattle.std.proofs.Common.{arith}
use Rattle.beet_errand.proofs.Frame.{exits, no_memory}
use Rattle.beet_gathering.proofs.GatherSteps.{all_gathered, gathered_at, gathered_none, spent_at, stopped_at}
use Rattle.beet_gathering.proofs.gathering.gather_bidders.Goals as goal

pub returns-in_err-gathered : goal.returns-in_err-gathered
returns-in_err-gathered g c = exits c.from_residual.ensures.1 no_memory

pub loop-entry-init : goal.loop-entry-init
loop-entry-init g c = gathered_none g.B.Gathers.has_taken _ _ _ _ c.in_ok-gathered.ensures

pub returns-in_err-points : goal.returns-in_err-points
returns-in_err-points g c =
    exits c.from_residual-in_err-points.ensures.1
    (stopped_at g.B.Gathers.has_taken _ _ c.loop-entry.entry-index _ _ _ _ _ c.loop-entry-test.true c.entry-item.is
    c.loop-entry.invariant _ c.in_err-points.ensures.reads)

pub take-requires-clause-taken : goal.take-requires-clause-taken
take-requires-clause-taken g c = (c.loop-entry.invariant.bidders, c.loop-entry.invariant.taken)

pub returns-in_err-take : goal.returns-in_err-take
returns-in_err-take g c =
    exits c.from_residual-in_err-take.ensures.1
    (spent_at g.B.Gathers.has_taken _ _ c.loop-entry.entry-index _ _ _ _ _ c.loop-entry-test.true c.entry-item.is
    c.loop-entry.invariant _ c.in_ok-points.ensures.reads)

pub loop-entry-preserved : goal.loop-entry-preserved
loop-entry-preserved g c =
    gathered_at g.B.Gathers.has_taken _ _ c.loop-entry.entry-index _ _ _ _ _ c.loop-entry-test.true c.entry-item.is
    c.loop-entry.invariant _ _ c.in_ok-points.ensures.reads (λ bidders h. c.in_ok-take.ensures bidders h)

pub returns : goal.returns
returns g c = all_gathered g.B.Gathers.has_taken _ _ _ c.loop-entry.entry-index (omega arith) c.loop-entry.invariant
