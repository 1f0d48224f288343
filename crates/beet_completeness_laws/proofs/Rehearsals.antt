-- Where a schedule leaves nothing undelivered, each line of a rehearsal that is done names the outcome.
use Rattle.std.proofs.Common.{◌≡◌, ◌⊎◌, inl, inr, ◌∷◌, ℕ, List, [], Option, Some, Ok, Err, sym, ap, subst, ◌∙◌, arith}
use Rattle.std.specs.Prelude.{codes}
use Rattle.beet_store.specs.Files.{File}
use Rattle.beet_store.specs.Desks.{Done as CallDone}
use Rattle.beet_store.specs.declared.desk.PutFault.TheVariants.{Failed, OutOfMemory as NoMemoryToPut}
use Rattle.beet_forms.specs.Names.{is_name_of}
use Rattle.beet_bids.specs.Outcomes.{outcome_of}
use Rattle.beet_book.specs.Farmers.{book_with}
use Rattle.beet_plan.specs.Runs.{finish_of}
use Rattle.beet_delivery.specs.Events.{after, undelivered}
use Rattle.beet_auction.specs.Endings.{book_finish, book_rounds}
use Rattle.beet_world.specs.Worlds.{named_in}
use Rattle.beet_world.specs.declared.schedule.Delivery.{Delivery}
use Rattle.beet_errand.specs.Errands.{Answer, Ends, Errand, Wants}
use Rattle.beet_errand.specs.Fetches.{Went}
use Rattle.beet_errand.specs.Statuses.{code_of}
use Rattle.beet_errand.specs.declared.answer.Refusal.TheVariants.{ReadFault}
use Rattle.beet_errand.specs.declared.answer.Status.TheVariants.{Refused}
use Rattle.beet_errand.specs.Runs.{EndsBy, GivesAll, Runs, status_after}
use Rattle.beet_load.specs.Loading.{AuctionWithBidders}
use Rattle.beet_load.specs.Servers.{masks_of}
use Rattle.beet_job_rehearse.specs.Rehearse.{rehearse_errand, rehearsed}
use Rattle.beet_job_rehearse.specs.Standings.{ended_alike}
use Rattle.beet_job_rehearse.specs.StandingTexts.{rehearsal_text}
use Rattle.beet_job_rehearse.proofs.AllEnded.{all-ended}
use Rattle.beet_command.specs.Words.{are_names}
use Rattle.beet_app.specs.Jobs.{Answering, Job, job_of}
use Rattle.beet_errand.specs.Overs.{answer_over}
use Rattle.beet_app_laws.specs.Calls.{Call, IsOf, Puts, RunsJob, Says}
use Rattle.beet_app_laws.proofs.Led.{went-end}
use Rattle.beet_completeness_laws.specs.Complete.{CanRehearse}
use Rattle.beet_completeness_laws.specs.WithoutFault.{RunsWithoutFault}
use Rattle.beet_completeness_laws.proofs.Leading.{book-ends, passes-both}

-- ---- a run with the status 0 has given its answer whole

read-all : (answer over : Answer) (status : ℕ) → status ≡ 0 → status ≡ code_of answer.status →
    (answer.status ≡ Refused ReadFault) ⊎ (over ≡ answer) → over ≡ answer
read-all answer over status zero e (inl unread) = absurd (omega (arith, zero, e ∙ ap code_of unread))
read-all answer over status zero e (inr is) = is

given-whole : (answer over : Answer) (call : Call) (done : CallDone) → call.status ≡ 0 →
    call.status ≡ code_of (status_after answer.status done) →
    (answer.status ≡ Refused ReadFault) ⊎ (over ≡ answer) →
    GivesAll call.desk call.desk_now answer.files answer.text done → Puts call over.files over.text
given-whole answer over call (Ok tt) zero e led calls =
    subst (λ (a : Answer). Puts call a.files a.text) (sym (read-all answer over call.status zero e led)) calls
given-whole answer over call (Err Failed) zero e led calls = absurd (omega (arith, zero, e))
given-whole answer over call (Err NoMemoryToPut) zero e led calls = absurd (omega (arith, zero, e))

module _ (files : List File) (call : Call) (from : IsOf files call) (zero : call.status ≡ 0) where
  ends-whole : (errand rest : Errand) → Went call.shelf call.shelf_now errand rest →
      EndsBy rest call.desk call.desk_now call.status →
      let over = answer_over files errand in Puts call over.files over.text
  ends-whole errand (Ends answer) went (inl out) =
      given-whole answer (answer_over files errand) call out.done zero out.code
      (went-end files call.shelf call.shelf_now from errand answer went) out.calls
  ends-whole errand (Ends answer) went (inr out) = absurd (omega (arith, zero, out.code))
  ends-whole errand (Wants name limit next) went out = absurd (omega (arith, zero, out.code))

  runs-whole : (errand : Errand) → Runs errand call.shelf call.shelf_now call.desk call.desk_now call.status →
      let over = answer_over files errand in Puts call over.files over.text
  runs-whole errand r = ends-whole errand r.rest r.went r.ends

  pub job-whole : (job : Option Job) (errand : Errand) → job ≡ Some (Answering errand) →
      RunsJob job call →
      let over = answer_over files errand in Puts call over.files over.text
  job-whole job errand e r = runs-whole errand (subst (λ job. RunsJob job call) e r)

-- ---- a rehearsal

module _ (files : List File) (call : Call) (auction servers list name : List ℕ) (loaded : AuctionWithBidders)
    (schedule : List Delivery)
    (can : CanRehearse files auction servers list name loaded schedule) where
  rehearsed-over : answer_over files (rehearse_errand auction servers list name) ≡ rehearsed loaded schedule
  rehearsed-over = can.loaded_read _ ∙ can.schedule_read (λ deliveries. Ends (rehearsed loaded deliveries))

  pub said : RunsWithoutFault files (codes "rehearse" ∷ auction ∷ servers ∷ list ∷ name ∷ []) call →
      undelivered (book_rounds (book_with loaded.grid loaded.farmers) (masks_of loaded.servers))
      (after (book_rounds (book_with loaded.grid loaded.farmers) (masks_of loaded.servers)) (named_in schedule)) ≡ 0 →
      call.status ≡ 0 →
      Says call
      (rehearsal_text loaded.grid (ended_alike (finish_of (outcome_of (book_with loaded.grid loaded.farmers)))))
  said w none zero =
      let book = book_with loaded.grid loaded.farmers in
      let masks = masks_of loaded.servers in
      let rounds = book_rounds book masks in
      let errand = rehearse_errand auction servers list name in
      let job = Some (Answering errand) in
      let is_job = passes-both (are_names (auction ∷ servers ∷ name ∷ [])) (is_name_of list) job w.job w.named in
      let over : answer_over files errand ≡ rehearsed loaded schedule = rehearsed-over in
      let whole = job-whole files call w.from zero
      (job_of (codes "rehearse" ∷ auction ∷ servers ∷ list ∷ name ∷ [])) errand is_job w.runs in
      let ended = all-ended (book_finish book masks) rounds (after rounds (named_in schedule)) none in
      let alike = ended ∙ ap (λ finish. ended_alike finish) (book-ends book masks can.masks) in
      subst (λ rehearsal. Says call (rehearsal_text loaded.grid rehearsal)) alike
      (subst (λ (a : Answer). Puts call a.files a.text) over whole)
