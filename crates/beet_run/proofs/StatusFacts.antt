-- The status of a run that has ended.
use Rattle.std.proofs.Common.{inl, inr, refl}
use Rattle.beet_plan.specs.declared.Finish.{Finish}
use Rattle.beet_plan.specs.declared.Finish.TheVariants.{Price, NoPrice, MasksSpent}
use Rattle.beet_errand.specs.Fetches.{IsDone}
use Rattle.beet_run.specs.Outcomes.{status_of}

-- a run ends the job as one that is done
pub status-done : (finish : Finish) → IsDone (status_of finish)
status-done (Price place volume supply) = inl refl
status-done NoPrice = inl refl
status-done MasksSpent = inr refl
