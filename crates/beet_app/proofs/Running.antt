-- Jobs that end as done.
use Rattle.std.proofs.Common.{◌≡◌, inl, Result, Ok, Err, IfOk}
use Rattle.beet_errand.specs.Errands.{Answer}
use Rattle.beet_errand.specs.Fetches.{IsDone}
use Rattle.beet_errand.specs.declared.answer.Status.TheVariants.{Done as JobDone}
use Rattle.beet_errand.specs.declared.answer.Stop.{Stop}

pub done_ends : (result : Result Answer Stop) → IfOk result (λ answer. answer.status ≡ JobDone) →
    IfOk result (λ answer. IsDone answer.status)
done_ends (Ok answer) e = inl e
done_ends (Err stop) e = tt
