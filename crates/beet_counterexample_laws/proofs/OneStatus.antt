-- A record tells the exit status.
use Rattle.std.proofs.Common.{◌≡◌, ◌⊎◌, inl, inr, ℕ, List, [], ◌∷◌, Option, Some, None, refl, sym, ap, subst, ◌∙◌, arith}
use Rattle.std.proofs.Common.{length}
use Rattle.std.specs.Prelude.{MatchOption}
use Rattle.std.proofs.lemmas.List.{append_cancel_left}
use Rattle.beet_store.specs.Files.{Fetch}
use Rattle.beet_errand.specs.Errands.{Answer, Errand, Ends, Step, Wants, after_answer, answers, refuses, text_answer}
use Rattle.beet_errand.specs.Fetches.{Leads}
use Rattle.beet_errand.specs.Statuses.{code_of}
use Rattle.beet_errand.specs.Texts.{usage_text}
use Rattle.beet_errand.specs.declared.answer.Refusal.TheVariants.{Usage}
use Rattle.beet_errand.specs.declared.answer.Status.TheVariants.{Done}
use Rattle.beet_audit.specs.OneRuns.{OneRun}
use Rattle.beet_audit.specs.declared.fault.AuditFault.{AuditFault}
use Rattle.beet_job_audit.specs.Ending.{TellsFinding, audit_answer}
use Rattle.beet_job_audit.specs.Reading.{read_errand}
use Rattle.beet_job_audit.specs.declared.reading.ReadViews.{ReadViews}
use Rattle.beet_differences.specs.Comparing.{compared, unless_apart}
use Rattle.beet_two_books.specs.declared.agreeing.MapFault.{MapFault}
use Rattle.beet_errand.specs.declared.answer.Status.{Status}
use Rattle.beet_book_differences.specs.Differences.{refused_text}
use Rattle.beet_job_worlds.specs.Ending.{ShowsBoth, difference_read}
use Rattle.beet_job_worlds.specs.Reading.{both_errand, first_book, second_book}
use Rattle.beet_job_five_worlds.specs.Answering.{ShowsTheSameForTwo}
use Rattle.beet_job_five_worlds.specs.Reading.{both_errand as both_of_five, second_book as second_of_five}
use Rattle.beet_job_five_worlds.proofs.DifferenceForTwo.{no-difference as none-for-two}
use Rattle.beet_job_worlds.proofs.DifferenceFacts.{no-difference}
use Rattle.beet_app.specs.Jobs.{Job, Answering, Comparing, ComparingForTwo, Auditing}
use Rattle.beet_app_laws.specs.Calls.{Call}
use Rattle.beet_app_laws.specs.Dues.{status_of_first, status_of_first_of_five}
use Rattle.beet_app_laws.specs.Recorded.{LeadsJob, LeadsToShow, LeadsToStop, RecordsJob}
use Rattle.beet_app_laws.proofs.Led.{passed}
use Rattle.beet_app_laws.proofs.Telling.{AreAlike, IsTold, told-both, told-both-of-five, told-views}
use Rattle.beet_program_laws.proofs.FiveWorlds.{difference_read as difference_of_five}

-- the same fetches lead an errand to one rest
one-rest : (fetches : List Fetch) (errand one other : Errand) → Leads fetches errand one → Leads fetches errand other →
    one ≡ other
one-rest [] errand one other e f = sym e ∙ f
one-rest (fetch ∷ fetches) (Ends answer) one other l m = absurd l
one-rest (fetch ∷ fetches) (Wants name limit next) one other l m =
    one-rest fetches (after_answer name next fetch.answer) one other l.2 m.2

same-end : (one other : Answer) → Ends one ≡ Ends other → one ≡ other
same-end one other e = cc

one-answer : (fetches : List Fetch) (errand : Errand) (one other : Answer) → Leads fetches errand (Ends one) →
    Leads fetches errand (Ends other) → one.status ≡ other.status
one-answer fetches errand one other l m =
    ap (λ (a : Answer). a.status) (same-end one other (one-rest fetches errand (Ends one) (Ends other) l m))

module _ {A : Type 0} (step : Step A) (fetches : List Fetch) where
  -- the fetches lead through the step to a value, or end it, whatever would come next
  abbrev To : A → Type 0
  To value = (next : A → Errand) → Leads fetches (step next) (next value)

  abbrev Ending : Answer → Type 0
  Ending answer = (next : A → Errand) → Leads fetches (step next) (Ends answer)

  one-value : IsTold A → (v w : A) → To v → To w → v ≡ w
  one-value told v w l m = told v w alike where
    alike : AreAlike v w
    alike f =
        let next : A → Errand = λ a. answers Done (f a) in
        ap (λ (a : Answer). a.text)
        (same-end (text_answer Done (f v)) (text_answer Done (f w))
        (one-rest fetches (step next) (next v) (next w) (l next) (m next)))

  to-same : (v : A) (answer : Answer) (text : List ℕ) → To v → Ending answer → text_answer Done text ≡ answer
  to-same v answer text l m =
      same-end (text_answer Done text) answer
      (one-rest fetches (step (λ a. answers Done text)) (answers Done text) (Ends answer) (l (λ a. answers Done text))
      (m (λ a. answers Done text)))

  never-both : (v : A) (answer : Answer) → To v → Ending answer → ⊥
  never-both v answer l m =
      let same : 0 ≡ 1 = ap (λ (a : Answer). length a.text)
      (to-same v answer [] l m ∙ sym (to-same v answer (0 ∷ []) l m)) in
      absurd (omega (arith, same))

audit-status : (read : ReadViews) (one other : Option AuditFault) →
    MatchOption one (OneRun read.grid read.views) (λ fault. OneRun read.grid read.views → ⊥) →
    MatchOption other (OneRun read.grid read.views) (λ fault. OneRun read.grid read.views → ⊥) →
    (audit_answer read one).status ≡ (audit_answer read other).status
audit-status read None None is so = refl
audit-status read None (Some fault) is not = absurd (not is)
audit-status read (Some fault) None not is = absurd (not is)
audit-status read (Some fault) (Some other) not so = refl

-- an auction and transcripts have one finding
one-finding : (read : ReadViews) (one other : Answer) → TellsFinding read one → TellsFinding read other →
    one.status ≡ other.status
one-finding read one other t u =
    ap (λ (a : Answer). a.status) t.is ∙ audit-status read t.found u.found t.one_run u.one_run
    ∙ sym (ap (λ (a : Answer). a.status) u.is)

-- two worlds that are compared, of which an answer shows that there is no difference between them, and how one ends
module _ {A : Type 0} (step : Step A) (difference : A → Option MapFault) (shows : A → Answer → Type 0) (end : A → Status)
    (told : IsTold A) (none : (both : A) (answer : Answer) → shows both answer → difference both ≡ None)
    (ends : (both : A) (answer : Answer) → shows both answer → answer.status ≡ end both) (fetches : List Fetch) where
  abbrev both_compared : Step A
  both_compared = compared refused_text difference step

  -- worlds that look the same go on together
  go-on : (answer : Answer) (shown : LeadsToShow step shows fetches answer) → To both_compared fetches shown.value
  go-on answer shown next =
      passed (difference shown.value) (next shown.value) (Leads fetches (both_compared next))
      (none shown.value answer shown.shown)
      (shown.leads (λ both. unless_apart refused_text (difference both) (next both)))

  one-comparison : (one other : Answer) →
      LeadsToShow step shows fetches one ⊎ LeadsToStop both_compared fetches one →
      LeadsToShow step shows fetches other ⊎ LeadsToStop both_compared fetches other → one.status ≡ other.status
  one-comparison one other (inl l) (inl m) =
      ends l.value one l.shown
      ∙ ap end (one-value step fetches told l.value m.value l.leads m.leads)
      ∙ sym (ends m.value other m.shown)
  one-comparison one other (inl l) (inr m) = absurd (never-both both_compared fetches l.value other (go-on one l) m)
  one-comparison one other (inr l) (inl m) = absurd (never-both both_compared fetches m.value one (go-on other m) l)
  one-comparison one other (inr l) (inr m) =
      let next : A → Errand = λ both. answers Done [] in one-answer fetches (both_compared next) one other (l next) (m next)

module _ (fetches : List Fetch) where
  of-job : (job : Option Job) (one other : Answer) → LeadsJob job fetches one → LeadsJob job fetches other →
      one.status ≡ other.status
  of-job None one other l m = one-answer fetches (refuses Usage usage_text) one other l m
  of-job (Some (Answering errand)) one other l m = one-answer fetches errand one other l m
  of-job (Some (Comparing auction servers first second s out)) one other l m =
      one-comparison (both_errand auction servers first second) (difference_read s) (ShowsBoth s out) status_of_first
      told-both (λ both answer shown. no-difference s (first_book both) (second_book both) shown.agree)
      (λ both answer shown. ap (λ (a : Answer). a.status) shown.is) fetches one other l m
  of-job (Some (ComparingForTwo auction servers first second two out)) one other l m =
      one-comparison (both_of_five auction servers first second) (difference_of_five two)
      (λ both answer. ShowsTheSameForTwo two.0 two.1 out both.first (second_of_five both) answer) status_of_first_of_five
      told-both-of-five
      (λ both answer shown. none-for-two two.0 two.1 both.first.book (second_of_five both) shown.agree)
      (λ both answer shown. ap (λ (a : Answer). a.status) shown.is) fetches one other l m
  of-job (Some (Auditing auction t1 t2 t3)) one other (inl l) (inl m) =
      one-finding m.value one other
      (subst (λ v. TellsFinding v one)
      (one-value (read_errand auction t1 t2 t3) fetches told-views l.value m.value l.leads m.leads) l.shown) m.shown
  of-job (Some (Auditing auction t1 t2 t3)) one other (inl l) (inr m) =
      absurd (never-both (read_errand auction t1 t2 t3) fetches l.value other l.leads m)
  of-job (Some (Auditing auction t1 t2 t3)) one other (inr l) (inl m) =
      absurd (never-both (read_errand auction t1 t2 t3) fetches m.value one m.leads l)
  of-job (Some (Auditing auction t1 t2 t3)) one other (inr l) (inr m) =
      let next : ReadViews → Errand = λ read. answers Done [] in
      one-answer fetches (read_errand auction t1 t2 t3 next) one other (l next) (m next)

pub one-status : (job : Option Job) (call : Call) (status : ℕ) → RecordsJob job call →
    RecordsJob job (record call { status = status }) → status ≡ call.status
one-status job call status r s =
    let fetches : s.fetches ≡ r.fetches =
    append_cancel_left call.shelf.fetches s.fetches r.fetches (sym s.recorded ∙ r.recorded) in
    s.code
    ∙ ap code_of (of-job r.fetches job s.answer r.answer
    (subst (λ f. LeadsJob job f s.answer) fetches s.leads) r.leads)
    ∙ sym r.code
