use Rattle.std.proofs.Common.{ℕ, List, All, subst}
use Rattle.beet_view.specs.Transcripts.{HasElements}
use Rattle.beet_view.proofs.writing.push_run.Goals as goal

pub returns-clause-rounds : goal.returns-clause-rounds
returns-clause-rounds c =
    subst (λ (rounds : List (List ℕ × List ℕ)). All HasElements rounds) c.received-rounds.ensures
    c.in_ok-push_each.ensures.limits
