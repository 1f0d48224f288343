use Rattle.std.proofs.Common.{◌*◌, ap, subst, sym}
use Rattle.beet_errand.proofs.Frame.{bound, exits, given, no_memory, stopped}
use Rattle.beet_five_load.specs.FiveLoading.{FiveWithInputs}
use Rattle.beet_plan.specs.FivePlan.{FiveAuction, five_over, most_masks, most_secrets}
use Rattle.beet_five_run.specs.FiveRuns.{CanStart, EndsBook}
use Rattle.beet_job_five.proofs.FiveStarting.{can-start, tells-five}
use Rattle.beet_job_five.proofs.five.Goals as goal

pub returns-in_err-loaded-clause-reads : goal.returns-in_err-loaded-clause-reads
returns-in_err-loaded-clause-reads g c = exits c.from_residual.ensures.1 (stopped c.in_err-loaded.ensures)

pub end_of_five-requires : goal.end_of_five-requires
end_of_five-requires g c =
    let i = c.loaded.inside in
    subst (λ (s : FiveAuction). CanStart (λ script. 2 * script.prices) most_secrets most_masks s i.inputs.items i.masks.items
    i.coefficients.items) (sym c.loaded.invariant)
    (subst (λ (k : FiveWithInputs). CanStart (λ script. 2 * script.prices) most_secrets most_masks (five_over k.grid)
    k.inputs k.masks k.coefficients) (sym c.loaded.view_is)
    (can-start c.in_ok-loaded.loaded c.in_ok-loaded.ensures.gives.0 c.in_ok-loaded.ensures.gives.1))

pub returns-in_err-finish-clause-reads : goal.returns-in_err-finish-clause-reads
returns-in_err-finish-clause-reads g c =
    exits c.from_residual-in_err-finish.ensures.1
    (rw c.in_err-finish.ensures.memory (bound c.in_ok-loaded.ensures (λ loaded kept. no_memory)))

pub returns-in_err-outcome_reply-clause-reads : goal.returns-in_err-outcome_reply-clause-reads
returns-in_err-outcome_reply-clause-reads g c =
    exits c.from_residual-in_err-outcome_reply.ensures.1 (bound c.in_ok-loaded.ensures (λ loaded kept. no_memory))

pub returns-clause-reads : goal.returns-clause-reads
returns-clause-reads g c =
    let i = c.loaded.inside in
    let finish = c.in_ok-finish.finish in
    let rounds = c.in_ok-finish.rounds in
    let run : EndsBook (five_over i.grid) i.inputs.items i.masks.items i.coefficients.items finish rounds =
    subst (λ (s : FiveAuction). EndsBook s i.inputs.items i.masks.items i.coefficients.items finish rounds) c.loaded.invariant
    c.in_ok-finish.ensures.ends in
    let ends : EndsBook (five_over c.in_ok-loaded.loaded.grid) c.in_ok-loaded.loaded.inputs c.in_ok-loaded.loaded.masks
    c.in_ok-loaded.loaded.coefficients finish rounds =
    subst (λ (k : FiveWithInputs). EndsBook (five_over k.grid) k.inputs k.masks k.coefficients finish rounds) c.loaded.view_is run in
    bound c.in_ok-loaded.ensures (λ loaded kept. given
    (rw (c.in_ok-outcome_reply.ensures, ap (λ (k : FiveWithInputs). k.grid) c.loaded.view_is)
    (tells-five c.in_ok-loaded.loaded loaded finish rounds kept ends)))
