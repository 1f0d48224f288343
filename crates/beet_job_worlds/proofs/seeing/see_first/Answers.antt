use Rattle.std.proofs.Common.{refl, ◌∙◌}
use Rattle.beet_job_worlds.proofs.seeing.see_first.Goals as goal

pub returns-clause-reply : goal.returns-clause-reply
returns-clause-reply g c =
    c.in_ok-reply.ensures ∙ rw (c.grid.ensures.value, c.in_ok-run.ensures.finish, c.in_ok-run.ensures.rounds) refl
