use Rattle.std.proofs.Common.{refl, sym}
use Rattle.beet_errand.proofs.Frame.{bind, exits, given, no_memory, stopped}
use Rattle.beet_errand.specs.Errands.{gives}
use Rattle.beet_job_envelopes.specs.Seal.{sealed_answer}
use Rattle.beet_job_envelopes.proofs.sealing.seal_curve.Goals as goal

pub returns-in_err-tape-clause-reads : goal.returns-in_err-tape-clause-reads
returns-in_err-tape-clause-reads g c =
    exits c.from_residual.ensures.1 (stopped {
    rest = λ words. gives (sealed_answer c.args.grid.now c.args.out.now c.args.curve.now words)} c.in_err-tape.ensures.reads)

pub returns-in_err-reply-clause-reads : goal.returns-in_err-reply-clause-reads
returns-in_err-reply-clause-reads g c =
    exits c.from_residual-in_err-reply.ensures.1 (bind {
    rest = λ words. gives (sealed_answer c.args.grid.now c.args.out.now c.args.curve.now words)} c.in_ok-tape.ensures.reads no_memory)

pub returns-clause-reads : goal.returns-clause-reads
returns-clause-reads g c =
    bind {rest = λ words. gives (sealed_answer c.args.grid.now c.args.out.now c.args.curve.now words)}
    c.in_ok-tape.ensures.reads (given (sym c.in_ok-reply.ensures))

pub sealed_reply-reply-requires-clause-of_grid : goal.sealed_reply-reply-requires-clause-of_grid
sealed_reply-reply-requires-clause-of_grid g c = c.requires

pub sealed_reply-reply-requires-clause-fresh : goal.sealed_reply-reply-requires-clause-fresh
sealed_reply-reply-requires-clause-fresh g c = c.in_ok-tape.ensures.fresh

pub sealed_reply-reply-requires-clause-enough : goal.sealed_reply-reply-requires-clause-enough
sealed_reply-reply-requires-clause-enough g c = c.in_ok-tape.ensures.enough

pub returns-clause-done : goal.returns-clause-done
returns-clause-done g c = rw c.in_ok-reply.ensures refl
