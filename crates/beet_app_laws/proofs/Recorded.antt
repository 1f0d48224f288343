-- What a run has recorded.
use Rattle.std.proofs.Common.{◌≡◌, ◌≢◌, ◌++◌, ◌⊎◌, inl, inr, ℕ, List, [], ◌∷◌, Option, Some, None, ap, sym}
use Rattle.std.proofs.Common.{subst, ◌∙◌, refl}
use Rattle.std.proofs.lemmas.List.{append_cancel_left}
use Rattle.beet_store.specs.Files.{Fetch, File, Told}
use Rattle.beet_errand.specs.Errands.{Answer, Errand, Ends, Step, answers, refuses}
use Rattle.beet_errand.specs.Fetches.{IsRead, Leads}
use Rattle.beet_errand.specs.Records.{calls_of}
use Rattle.beet_errand.specs.Runs.{Runs}
use Rattle.beet_errand.specs.Statuses.{code_of}
use Rattle.beet_errand.specs.Tasks.{RunsTask, ShowsRead, ToAnswer, ToShow}
use Rattle.beet_errand.specs.Texts.{usage_text}
use Rattle.beet_errand.specs.declared.answer.OwnRefusal.{OwnRefusal}
use Rattle.beet_errand.specs.declared.answer.OwnRefusal.TheVariants.{OfWorlds, OfAudit}
use Rattle.beet_errand.specs.declared.answer.Refusal.TheVariants.{Usage}
use Rattle.beet_errand.specs.declared.answer.Status.TheVariants.{Done as JobDone}
use Rattle.beet_errand.proofs.Records.{RecordsAnswer, records_task}
use Rattle.beet_errand.proofs.Statuses.{same_end}
use Rattle.beet_job_worlds.specs.Answering.{ShowsTheSame}
use Rattle.beet_job_worlds.specs.Ending.{compared_errand}
use Rattle.beet_job_worlds.specs.Reading.{both_errand, first_book, second_book, words_read}
use Rattle.beet_job_five_worlds.specs.Answering.{ShowsTheSameForTwo}
use Rattle.beet_job_five_worlds.specs.Ending.{compared_errand as compared_for_two}
use Rattle.beet_job_five_worlds.specs.Reading.{both_errand as both_of_five, second_book as second_of_five}
use Rattle.beet_job_audit.specs.Ending.{TellsFinding}
use Rattle.beet_job_audit.specs.Reading.{read_errand}
use Rattle.beet_app.specs.Jobs.{Job, Answering, Comparing, ComparingForTwo, Auditing, job_of}
use Rattle.beet_app_laws.specs.Calls.{Call, RunsJob, RunsJobOf}
use Rattle.beet_app_laws.specs.Recorded.{LeadsJob, LeadsToShow, LeadsToStop, RecordsBy, RecordsJob}

-- the calls tell what they give
pub same-given : (files others : List File) (text other : List ℕ) → calls_of files text ≡ calls_of others other →
    (files ≡ others) × (text ≡ other)
same-given [] [] text other e = (let same : text ≡ other = cc in (refl, same))
same-given [] (file ∷ others) text other e = absurd cc
same-given (file ∷ files) [] text other e = absurd cc
same-given ((name, bytes) ∷ files) ((other-name, other-bytes) ∷ others) text other e =
    let rest : calls_of files text ≡ calls_of others other = cc in
    let names : name ≡ other-name = cc in
    let held : bytes ≡ other-bytes = cc in
    let same = same-given files others text other rest in
    (λ i. (names i, held i) ∷ same.0 i, same.1)

-- so two answers with one exit status and the same calls are one
same-answer : (one other : Answer) → code_of one.status ≡ code_of other.status →
    calls_of one.files one.text ≡ calls_of other.files other.text →
    one ≡ other
same-answer one other e f =
    let status = same_end one.status other.status e in
    let given = same-given one.files other.files one.text other.text f in
    λ i. record { status = status i; files = given.0 i; text = given.1 i }

-- an errand at its end leads to no other
end-answer : (fetches : List Fetch) (answer end : Answer) → Leads fetches (Ends answer) (Ends end) → end ≡ answer
end-answer [] answer end e = cc
end-answer (fetch ∷ fetches) answer end l = absurd l

module _ (call : Call) (one : call.status ≢ 1) (four : call.status ≢ 4) where
  -- what is recorded of an errand
  abbrev OfErrand : Errand → Type 0
  OfErrand errand = RecordsAnswer errand call.shelf call.shelf_now call.desk call.desk_now call.status

  of-errand : (errand : Errand) → Runs errand call.shelf call.shelf_now call.desk call.desk_now call.status → OfErrand errand
  of-errand errand r = records_task call.shelf_now call.desk call.desk_now call.status one four (ToAnswer errand) call.shelf r

  -- the same record, of what else its fetches lead to
  record-by : (leads_to : List Fetch → Answer → Type 0) (errand : Errand) (r : OfErrand errand) →
      leads_to r.fetches r.answer →
      RecordsBy leads_to call
  record-by leads_to errand r leads = record {
    fetches = r.fetches;
    recorded = r.recorded;
    answer = r.answer;
    leads = leads;
    code = r.code;
    calls = r.calls;
  }

  -- two lists that stand after what was recorded before are one
  same-fetches : (fetches others : List Fetch) → call.shelf_now.fetches ≡ call.shelf.fetches ++ fetches →
      call.shelf_now.fetches ≡ call.shelf.fetches ++ others → fetches ≡ others
  same-fetches fetches others e f = append_cancel_left call.shelf.fetches fetches others (sym e ∙ f)

  -- whatever comes next, the record is the same, and so is the answer
  one-answer : (errand other : Errand) (r : OfErrand errand) (s : OfErrand other) →
      Leads r.fetches other (Ends r.answer)
  one-answer errand other r s =
      let fetches = same-fetches s.fetches r.fetches s.recorded r.recorded in
      let calls = append_cancel_left call.desk.calls (calls_of s.answer.files s.answer.text)
      (calls_of r.answer.files r.answer.text) (sym s.calls ∙ r.calls) in
      let answer = same-answer s.answer r.answer (sym s.code ∙ r.code) calls in
      subst (λ a. Leads r.fetches other (Ends a)) answer (subst (λ f. Leads f other (Ends s.answer)) fetches s.leads)

  -- the errand of a step that ends in it, whatever would come next
  stops : {A : Type 0} (step : Step A) →
      ((next : A → Errand) → Runs (step next) call.shelf call.shelf_now call.desk call.desk_now call.status) →
      RecordsBy (LeadsToStop step) call
  stops {A = A} step runs =
      let any : A → Errand = λ value. answers JobDone [] in
      let r = of-errand (step any) (runs any) in
      record-by (LeadsToStop step) (step any) r
      (λ next. one-answer (step any) (step next) r (of-errand (step next) (runs next)))

  -- what was read leads to its value
  through : {A : Type 0} (step : Step A) (value : A) → (is : IsRead call.shelf call.shelf_now step value) → (next : A → Errand) →
      Leads (is (λ value. answers JobDone [])).fetches (step next) (next value)
  through step value is next =
      let any = is (λ value. answers JobDone []) in
      let went = is next in
      subst (λ f. Leads f (step next) (next value))
      (same-fetches went.fetches any.fetches (ap (λ (t : Told). t.fetches) went.recorded)
      (ap (λ (t : Told). t.fetches) any.recorded)) went.leads

  -- an answer that shows goes out where all is read
  shown-out : {A : Type 0} (step : Step A) (shows : A → Answer → Type 0) (answer : Answer) →
      ShowsRead step shows call.shelf call.shelf_now answer →
      Runs (Ends answer) call.shelf_now call.shelf_now call.desk call.desk_now call.status → RecordsBy (LeadsToShow step shows) call
  shown-out step shows answer shown r =
      let any = shown.read (λ value. answers JobDone []) in
      let end = records_task call.shelf_now call.desk call.desk_now call.status one four (ToAnswer (Ends answer)) call.shelf_now r in
      let same = end-answer end.fetches answer end.answer end.leads in
      record {
        fetches = any.fetches;
        recorded = ap (λ (t : Told). t.fetches) any.recorded;
        answer = answer;
        leads = record { value = shown.value; leads = through step shown.value shown.read; shown = shown.shown };
        code = end.code ∙ ap (λ (a : Answer). code_of a.status) same;
        calls = subst (λ (a : Answer). call.desk_now.calls ≡ call.desk.calls ++ calls_of a.files a.text) same end.calls;
      }

  -- more may lead to an answer
  wider : (P Q : List Fetch → Answer → Type 0) →
      ((fetches : List Fetch) (answer : Answer) → P fetches answer → Q fetches answer) →
      RecordsBy P call → RecordsBy Q call
  wider P Q f r = record {
    fetches = r.fetches;
    recorded = r.recorded;
    answer = r.answer;
    leads = f r.fetches r.answer r.leads;
    code = r.code;
    calls = r.calls;
  }

  -- a job that shows has shown, or it was refused on the way
  showing : {A B : Type 0} (own : OwnRefusal) (step : Step A) (read : Step B) (shown : B → Answer → Type 0) →
      RunsTask (ToShow own step (ShowsRead read shown)) call.shelf call.shelf_now call.desk call.desk_now call.status →
      RecordsBy (λ fetches answer. LeadsToShow read shown fetches answer ⊎ LeadsToStop step fetches answer) call
  showing own step read shown (inl (answer, is, r)) =
      wider (LeadsToShow read shown)
      (λ fetches answer. LeadsToShow read shown fetches answer ⊎ LeadsToStop step fetches answer)
      (λ fetches answer h. inl h) (shown-out read shown answer is r)
  showing own step read shown (inr f) =
      wider (LeadsToStop step)
      (λ fetches answer. LeadsToShow read shown fetches answer ⊎ LeadsToStop step fetches answer)
      (λ fetches answer h. inr h) (stops step f)

  of-job : (job : Option Job) → RunsJob job call → RecordsJob job call
  of-job None r =
      let e = of-errand (refuses Usage usage_text) r in record-by (LeadsJob None) (refuses Usage usage_text) e e.leads
  of-job (Some (Answering errand)) r =
      let e = of-errand errand r in record-by (LeadsJob (Some (Answering errand))) errand e e.leads
  of-job (Some (Comparing auction servers first second s out)) r =
      showing OfWorlds (compared_errand auction servers first second s) (both_errand auction servers first second)
      (λ both answer. ShowsTheSame s out (first_book both) (words_read both) (second_book both) answer) r
  of-job (Some (ComparingForTwo auction servers first second two out)) r =
      showing OfWorlds (compared_for_two auction servers first second two.0 two.1)
      (both_of_five auction servers first second)
      (λ both answer. ShowsTheSameForTwo two.0 two.1 out both.first (second_of_five both) answer) r
  of-job (Some (Auditing auction one two three)) r =
      showing OfAudit (read_errand auction one two three) (read_errand auction one two three) TellsFinding r

pub records : (words : List (List ℕ)) (call : Call) → RunsJobOf words call → call.status ≢ 1 → call.status ≢ 4 →
    RecordsJob (job_of words) call
records words call r one four = of-job call one four (job_of words) r
