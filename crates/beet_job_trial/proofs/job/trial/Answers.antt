use Rattle.std.proofs.Common.{◌∙◌, sym}
use Rattle.beet_errand.proofs.Frame.{exits, no_memory, shown, stopped}
use Rattle.beet_errand.specs.Errands.{gives}
use Rattle.beet_run.proofs.StatusFacts.{status-done}
use Rattle.beet_job_trial.proofs.Ending.{over-grid, trial-ends, trial-many}
use Rattle.beet_job_trial.proofs.job.trial.Goals as goal

pub returns-in_err-servers-clause-reads : goal.returns-in_err-servers-clause-reads
returns-in_err-servers-clause-reads g c = λ seen. exits c.from_residual.ensures.1 no_memory

pub returns-in-Err-clause-reads : goal.returns-in-Err-clause-reads
returns-in-Err-clause-reads g c =
    λ seen. over-grid c.args.bidders c.args.prices c.grid_of-grid.ensures (stopped {rest = gives} (c.in-Err.ensures.reads seen))

pub run_auction-requires-clause-inputs : goal.run_auction-requires-clause-inputs
run_auction-requires-clause-inputs g c = λ lifetimes outlive.
    trial-many c.grid_of-grid.result c.args.bidders c.args.prices c.in-Ok.totals c.inputs.result c.grid_of-grid.ensures c.requires.sizes
    c.in-Ok.ensures.carry c.inputs.ensures.points

pub returns-in_err-finish-clause-reads : goal.returns-in_err-finish-clause-reads
returns-in_err-finish-clause-reads g c = λ seen. exits c.from_residual-in_err-finish.ensures.1 (rw c.in_err-finish.ensures.memory no_memory)

pub returns-in_err-sized_reply-clause-reads : goal.returns-in_err-sized_reply-clause-reads
returns-in_err-sized_reply-clause-reads g c = λ seen. exits c.from_residual-in_err-sized_reply.ensures.1 no_memory

pub returns-clause-reads : goal.returns-clause-reads
returns-clause-reads g c =
    let ends = trial-ends _ _ c.args.bidders c.args.prices _ _ c.in_ok-finish.finish c.in_ok-finish.rounds
    c.grid_of-grid.ensures c.in_ok-servers.ensures c.requires.sizes
    c.in-Ok.ensures.carry c.inputs.ensures.points c.in_ok-finish.ensures.ends in
    λ seen. over-grid c.args.bidders c.args.prices c.grid_of-grid.ensures
    (shown (c.in-Ok.ensures.reads seen) (sym (c.in_ok-sized_reply.ensures ∙ ends)))

pub returns-clause-done : goal.returns-clause-done
returns-clause-done g c = rw c.in_ok-sized_reply.ensures (status-done _)
