-- Files that lead a job to its end.
use Rattle.std.proofs.Common.{◌≡◌, ◌⊎◌, inl, inr, ◌+◌, ◌*◌, ℕ, List, Bool, true, false, Option, Some, None, length}
use Rattle.std.proofs.Common.{slice_index, nat_lt, if◌then◌else◌, refl, sym, ap, subst, ◌∙◌}
use Rattle.beet_field.specs.declared.trio.Trio.{Trio}
use Rattle.beet_store.specs.Files.{File}
use Rattle.beet_bids.specs.Books.{Book}
use Rattle.beet_bids.specs.Outcomes.{clearing_place, outcome_of, shown_by}
use Rattle.beet_bids.specs.declared.outcomes.Outcome.{Outcome}
use Rattle.beet_bids.specs.declared.outcomes.Outcome.TheVariants.{Price, No}
use Rattle.beet_bids.specs.declared.outcomes.Policy.{Policy}
use Rattle.beet_plan.specs.Auction.{Auction, price_with}
use Rattle.beet_plan.specs.Runs.{finish_of, found, run_finish}
use Rattle.beet_masking.specs.Masks.{is_spent, mask_at}
use Rattle.beet_plan.specs.Search.{path}
use Rattle.beet_plan.specs.declared.Finish.{Finish}
use Rattle.beet_plan.specs.declared.Finish.TheVariants.{NoPrice, MasksSpent}
use Rattle.beet_auction.specs.AnyPoints.{points_finish, points_place, values_on}
use Rattle.beet_auction.specs.Endings.{book_finish}
use Rattle.beet_errand.specs.Errands.{Answer, Errand, Step}
use Rattle.beet_errand.specs.Statuses.{code_of}
use Rattle.beet_errand.specs.Tasks.{Task}
use Rattle.beet_errand.specs.declared.answer.Status.{Status}
use Rattle.beet_errand.specs.declared.answer.Status.TheVariants.{Done}
use Rattle.beet_run.specs.Outcomes.{status_of}
use Rattle.beet_app.specs.Jobs.{Job, job_of}
use Rattle.beet_errand.specs.Overs.{ReadsTo, answer_over}
use Rattle.beet_app_laws.specs.Calls.{Call}
use Rattle.beet_app_laws.specs.Dues.{EndsAsDue, IsDue}
use Rattle.beet_app_laws.proofs.Led.{led}
use Rattle.beet_completeness_laws.specs.Complete.{MasksSuffice, MasksSufficeFor, Suffice}
use Rattle.beet_completeness_laws.specs.WithoutFault.{IsDoneOrShort, RunsTableWithoutFault, RunsWithoutFault}

-- ---- runs

module _ {J : Type 0} {job_named : List (List ℕ) → Option J} {task_for : Option J → Task} where
  -- a run without a fault ends with the status that is due
  pub undisturbed-by : (due : Status) (files : List File) (words : List (List ℕ)) (call : Call) →
      RunsTableWithoutFault job_named task_for files words call → EndsAsDue due call.status →
      (call.status ≡ code_of due) ⊎ (call.status ≡ 1)
  undisturbed-by due files words call w (inl e) = inl e
  undisturbed-by due files words call w (inr (inl e)) = inr e
  undisturbed-by due files words call w (inr (inr (inl e))) = absurd (w.shelf_rests (w.read e))
  undisturbed-by due files words call w (inr (inr (inr e))) = absurd (w.desk_rests (w.write e))

  -- which is 0 for a job that is done
  pub undisturbed : (files : List File) (words : List (List ℕ)) (call : Call) →
      RunsTableWithoutFault job_named task_for files words call → EndsAsDue Done call.status → IsDoneOrShort call
  undisturbed files words call w e = undisturbed-by Done files words call w e

-- where the files lead the job that the words name to it, it is done
pub done-or-short : (files : List File) (words : List (List ℕ)) (call : Call) → RunsWithoutFault files words call →
    (job : Option Job) → job_of words ≡ job → IsDue files job Done → IsDoneOrShort call
done-or-short files words call w job e due =
    undisturbed files words call w (led words files call Done w.from w.runs (subst (λ j. IsDue files j Done) (sym e) due))

module _ {J : Type 0} where
  -- words that name a job pass the test before it
  pub passes : (b : Bool) (job : Option J) (at : J) → (if b then job else None) ≡ Some at →
      (if b then job else None) ≡ job
  passes true job at e = refl
  passes false job at e = absurd (cc e)

  -- and two tests, one after the other
  pub passes-both : (one other : Bool) (job : Option J) (at : J) →
      (if one then if other then job else None else None) ≡ Some at →
      (if one then if other then job else None else None) ≡ job
  passes-both one other job at e =
      let first = passes one (if other then job else None) at e in
      first ∙ passes other job at (sym first ∙ e)

-- ---- errands

module _ (files : List File) where
  -- over the files the errand ends with a job that is done
  abbrev pub IsDoneOver : Errand → Type 0
  IsDoneOver errand = Done ≡ (answer_over files errand).status

  -- it does where it goes on so from what it reads
  pub then-done : {A : Type 0} (step : Step A) (value : A) (next : A → Errand) → ReadsTo files step value →
      IsDoneOver (next value) → IsDoneOver (step next)
  then-done step value next r d = d ∙ ap (λ (a : Answer). a.status) (sym (r next))

  -- and where it passes a test
  pub passes-done : (test : Errand → Errand) (next : Errand) → test next ≡ next → IsDoneOver next →
      IsDoneOver (test next)
  passes-done test next e d = d ∙ ap (λ (errand : Errand). (answer_over files errand).status) (sym e)

-- ---- ends of runs

-- masks that suffice lead to what the search finds
run-ends : (prices : ℕ) (masks : ℕ → ℕ) (place : ℕ) (finish : Finish) →
    is_spent masks (length (path prices place)) ≡ false →
    run_finish prices masks place finish ≡ finish
run-ends prices masks place finish h = ap (λ (b : Bool). if b then MasksSpent else finish) h

outcome-done : (o : Outcome) → status_of (finish_of o) ≡ Done
outcome-done (Price place price volume supply) = refl
outcome-done No = refl

-- in the auction of a book that is the outcome
pub ends-with : (book : Book) (mask : ℕ → ℕ) → Suffice book.grid.prices (clearing_place book) mask →
    run_finish book.grid.prices mask (clearing_place book) (finish_of (outcome_of book)) ≡ finish_of (outcome_of book)
ends-with book mask h = run-ends book.grid.prices mask (clearing_place book) (finish_of (outcome_of book)) h

pub search-done : (book : Book) (mask : ℕ → ℕ) → Suffice book.grid.prices (clearing_place book) mask →
    Done ≡ status_of (run_finish book.grid.prices mask (clearing_place book) (finish_of (outcome_of book)))
search-done book mask h = sym (ap status_of (ends-with book mask h) ∙ outcome-done (outcome_of book))

pub book-ends : (book : Book) (masks : Trio (List ℕ)) → MasksSufficeFor book masks →
    book_finish book masks ≡ finish_of (outcome_of book)
book-ends book masks h = ends-with book (mask_at masks) h

pub book-done : (book : Book) (masks : Trio (List ℕ)) → MasksSufficeFor book masks →
    Done ≡ status_of (book_finish book masks)
book-done book masks h = search-done book (mask_at masks) h

priced-done : (there : Bool) (place : ℕ) (shown : List ℕ) →
    status_of (if there then price_with place shown else NoPrice) ≡ Done
priced-done true place shown = refl
priced-done false place shown = refl

found-done : (policy : Policy) (prices : ℕ) (supply demand : ℕ → ℕ) (place : ℕ) →
    status_of (found policy prices supply demand place) ≡ Done
found-done policy prices supply demand place =
    priced-done (nat_lt place prices) place (shown_by policy (demand place) (supply place))

pub points-done : (a : Auction) (inputs masks : Trio (List ℕ)) → MasksSuffice a.prices (points_place a inputs) masks →
    Done ≡ status_of (points_finish a inputs masks)
points-done a inputs masks h =
    let place = points_place a inputs in
    let values = values_on (2 * a.prices) inputs in
    let supply : ℕ → ℕ = slice_index values in
    let demand : ℕ → ℕ = λ k. slice_index values (a.prices + k) in
    sym (ap status_of (run-ends a.prices (mask_at masks) place (found a.policy a.prices supply demand place) h)
    ∙ found-done a.policy a.prices supply demand place)
