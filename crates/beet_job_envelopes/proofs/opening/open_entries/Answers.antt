use Rattle.std.proofs.Common.{List, ℕ, ap, sym, ◌∙◌}
use Rattle.beet_field.specs.declared.trio.Trio.{Trio}
use Rattle.beet_bids.specs.Grids.{Grid}
use Rattle.beet_errand.specs.Errands.{Answer, Step, gives}
use Rattle.beet_errand.proofs.Frame.{bound, exits, given, no_memory, stopped}
use Rattle.beet_load.specs.Servers.{ServerWords}
use Rattle.beet_run.proofs.StatusFacts.{status-done}
use Rattle.beet_gathering.specs.Opened.{opened_answer}
use Rattle.beet_gathering.proofs.PointRuns.{answer-opened, many}
use Rattle.beet_job_envelopes.specs.Open.{entries_job}
use Rattle.beet_job_envelopes.proofs.opening.open_entries.Goals as goal

-- what comes after the words and the bidders
abbrev rest : Grid → Trio ServerWords × List (Trio (List ℕ)) → Step Answer
rest grid sealed = gives (opened_answer grid sealed.0 sealed.1)

pub returns-in_err-servers-clause-reads : goal.returns-in_err-servers-clause-reads
unfolding entries_job
returns-in_err-servers-clause-reads g c =
    exits c.from_residual.ensures.1 (stopped {rest = rest c.args.grid.now} c.in_err-servers.ensures.reads)

pub run_auction-requires-clause-inputs : goal.run_auction-requires-clause-inputs
run_auction-requires-clause-inputs g c = λ lifetimes outlive.
    let read = c.in_ok-servers.ensures.reads.gives in
    many c.args.grid.now c.in_ok-servers.totals read.0.1 c.inputs.result read.1.1.taken c.inputs.ensures.points

pub returns-in_err-finish-clause-reads : goal.returns-in_err-finish-clause-reads
unfolding entries_job
returns-in_err-finish-clause-reads g c =
    exits c.from_residual-in_err-finish.ensures.1 (rw c.in_err-finish.ensures.memory
    (bound {rest = rest c.args.grid.now} c.in_ok-servers.ensures.reads (λ sealed is. no_memory)))

pub returns-in_err-outcome_reply-clause-reads : goal.returns-in_err-outcome_reply-clause-reads
unfolding entries_job
returns-in_err-outcome_reply-clause-reads g c =
    exits c.from_residual-in_err-outcome_reply.ensures.1
    (bound {rest = rest c.args.grid.now} c.in_ok-servers.ensures.reads (λ sealed is. no_memory))

pub returns-clause-reads : goal.returns-clause-reads
unfolding entries_job
returns-clause-reads g c =
    let grid = c.args.grid.now in
    bound {rest = rest grid} c.in_ok-servers.ensures.reads (λ sealed is. given
    (ap (λ words. opened_answer grid words sealed.1) is.0
    ∙ answer-opened grid c.in_ok-servers.totals sealed.1 c.inputs.result is.1.taken c.inputs.ensures.points c.in_ok-servers.servers
    c.in_ok-finish.finish c.in_ok-finish.rounds c.in_ok-finish.ensures.ends
    ∙ sym c.in_ok-outcome_reply.ensures))

pub returns-clause-done : goal.returns-clause-done
returns-clause-done g c = rw (ap (λ answer. answer.status) c.in_ok-outcome_reply.ensures) (status-done c.in_ok-finish.finish)
