-- What a run has recorded.
use Rattle.std.proofs.Common.{◌≡◌, ◌≢◌, ◌++◌, inl, inr, ℕ, List, [], ◌∷◌, Ok, Err, ap, ◌∙◌, append_assoc}
use Rattle.beet_store.specs.Desks.{DeskCall, DeskTold, Done, Put}
use Rattle.beet_store.specs.Files.{Fetch, File, Told}
use Rattle.beet_store.specs.declared.desk.PutFault.TheVariants.{Failed, OutOfMemory as NoMemoryToPut}
use Rattle.beet_errand.specs.Errands.{Answer, Errand, Ends, Wants}
use Rattle.beet_errand.specs.Fetches.{Leads, Went}
use Rattle.beet_errand.specs.Records.{calls_of}
use Rattle.beet_errand.specs.Runs.{EndsBy, GivesAll, status_after}
use Rattle.beet_errand.specs.Statuses.{code_of}
use Rattle.beet_errand.specs.Tasks.{OfTask, RunsTask, Task}
use Rattle.beet_errand.proofs.Tasks.{of_more}

-- what the shelf was asked and answered leads the errand to an answer, whose status is the run's, and what the desk was
-- given is this answer, whole, in order and once
pub record RecordsAnswer (errand : Errand) (old now : Told) (desk desk_now : DeskTold) (status : ℕ) : Type 0 where
  pub fetches : List Fetch
  pub recorded : now.fetches ≡ old.fetches ++ fetches
  pub answer : Answer
  pub leads : Leads fetches errand (Ends answer)
  pub code : status ≡ code_of answer.status
  pub calls : desk_now.calls ≡ desk.calls ++ calls_of answer.files answer.text

-- the errand of a task has led to such a record
abbrev pub RecordsTask : Task → Told → Told → DeskTold → DeskTold → ℕ → Type 0
RecordsTask task told told_now desk desk_now status =
    OfTask task told told_now (λ before errand. RecordsAnswer errand before told_now desk desk_now status)

-- calls that are all taken are recorded
pub all_recorded : (old now : DeskTold) (files : List File) (text : List ℕ) → GivesAll old now files text (Ok tt) →
    now.calls ≡ old.calls ++ calls_of files text
all_recorded old now [] text call = call.recorded
all_recorded old now (file ∷ files) text (inl (middle, call, rest)) =
    all_recorded middle now files text rest
    ∙ ap (λ (calls : List DeskCall). calls ++ calls_of files text) call.recorded
    ∙ append_assoc old.calls (Put file.0 file.1 (Ok tt) ∷ []) (calls_of files text)
all_recorded old now (file ∷ files) text (inr (fault, e, call)) = absurd cc

module _ (now : Told) (desk desk_now : DeskTold) (status : ℕ) (one : status ≢ 1) (four : status ≢ 4) where
  gone_out : (old : Told) (errand : Errand) (answer : Answer) (done : Done) → Went old now errand (Ends answer) →
      GivesAll desk desk_now answer.files answer.text done → status ≡ code_of (status_after answer.status done) →
      RecordsAnswer errand old now desk desk_now status
  gone_out old errand answer (Ok tt) went calls e = record {
    fetches = went.fetches;
    recorded = ap (λ (t : Told). t.fetches) went.recorded;
    answer = answer;
    leads = went.leads;
    code = e;
    calls = all_recorded desk desk_now answer.files answer.text calls;
  }
  gone_out old errand answer (Err Failed) went calls e = absurd (four e)
  gone_out old errand answer (Err NoMemoryToPut) went calls e = absurd (one e)

  ended : (old : Told) (errand rest : Errand) → Went old now errand rest → EndsBy rest desk desk_now status →
      RecordsAnswer errand old now desk desk_now status
  ended old errand (Ends answer) went (inl out) = gone_out old errand answer out.done went out.calls out.code
  ended old errand (Ends answer) went (inr out) = absurd (one out.code)
  ended old errand (Wants name limit next) went out = absurd (one out.code)

  -- a run that ends neither for want of memory nor because something was not taken has recorded the answer of its task
  pub records_task : (task : Task) (old : Told) → RunsTask task old now desk desk_now status →
      RecordsTask task old now desk desk_now status
  records_task task old runs = of_more task old now (λ told errand r. ended told errand r.rest r.went r.ends) runs
