-- The tasks of the jobs that words name, for any table of jobs.
use Rattle.std.proofs.Common.{◌≡◌, Option, Some, None, Result, subst}
use Rattle.beet_store.specs.Files.{Seen}
use Rattle.beet_errand.specs.Errands.{Answer}
use Rattle.beet_errand.specs.declared.answer.Stop.{Stop}
use Rattle.beet_errand.specs.Tasks.{DoesNamed, DoesTask, IsNoTask, Task}

module _ {J : Type 0} (task_of : Option J → Task) where
  -- words that name no job have no task
  pub no_job : (job : Option J) → IsNoTask (task_of None) → None ≡ job → IsNoTask (task_of job)
  no_job job none is = subst (λ (j : Option J). IsNoTask (task_of j)) is none

  -- the job that words name is done
  pub named_job : (named : Option J) (job : J) (old now : Seen) (result : Result Answer Stop) → Some job ≡ named →
      DoesTask (task_of (Some job)) old now result → DoesNamed (task_of named) old now (Some result)
  named_job named job old now result is d = subst (λ (j : Option J). DoesTask (task_of j) old now result) is d
