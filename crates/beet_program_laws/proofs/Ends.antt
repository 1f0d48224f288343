-- How a run over told files ends with status 0 or 6: with the answer of its job, which went out whole.
use Rattle.std.proofs.Common.{◌≡◌, ◌≢◌, ◌<◌, ◌⊎◌, inl, inr, ℕ, List, [], Bool, true, false, Option, None, Ok, Err}
use Rattle.std.proofs.Common.{if◌then◌else◌, refl, sym, ap, subst, ◌∙◌, arith}
use Rattle.beet_store.specs.Files.{File}
use Rattle.beet_store.specs.Desks.{Done}
use Rattle.beet_store.specs.declared.desk.PutFault.TheVariants.{Failed, OutOfMemory as NoMemoryToPut}
use Rattle.beet_words.specs.Bundles.{Words}
use Rattle.beet_bids.specs.Books.{Book, IsBook}
use Rattle.beet_bids.specs.Outcomes.{outcome_of}
use Rattle.beet_bids.specs.declared.outcomes.Outcome.{Outcome}
use Rattle.beet_bids.specs.declared.outcomes.Outcome.TheVariants.{Price, No}
use Rattle.beet_plan.specs.Runs.{finish_of}
use Rattle.beet_plan.specs.declared.Finish.TheVariants.{MasksSpent}
use Rattle.beet_auction.specs.Endings.{book_finish, book_rounds}
use Rattle.beet_headline.specs.Statements.{CanRun, are_spent}
use Rattle.beet_headline.proofs.Standings.{stands}
use Rattle.beet_errand.specs.Errands.{Answer, Errand, Ends, Step, Wants, refuses}
use Rattle.beet_errand.specs.Fetches.{IsDone, Went}
use Rattle.beet_errand.specs.Statuses.{IsDoneCode, code_of}
use Rattle.beet_errand.specs.Runs.{EndsBy, GivesAll, Runs, status_after}
use Rattle.beet_errand.specs.Tasks.{NoTask, RunsTask, Shows, Task, ToShow}
use Rattle.beet_errand.specs.Texts.{usage_text}
use Rattle.beet_errand.specs.declared.answer.OwnRefusal.{OwnRefusal}
use Rattle.beet_errand.specs.declared.answer.Refusal.TheVariants.{Usage, ReadFault, Own}
use Rattle.beet_errand.specs.declared.answer.Status.TheVariants.{Refused}
use Rattle.beet_errand.proofs.Statuses.{done_end}
use Rattle.beet_errand.proofs.Steps.{at_end}
use Rattle.beet_run.specs.OutcomeTexts.{outcome_text}
use Rattle.beet_run.specs.Outcomes.{status_of}
use Rattle.beet_app.specs.Doing.{task_of}
use Rattle.beet_app.specs.Jobs.{Job}
use Rattle.beet_errand.specs.Overs.{ReadsTo, answer_over}
use Rattle.beet_app_laws.proofs.Led.{went-end}
use Rattle.beet_app_laws.specs.Calls.{Call, IsOf, Puts, RunsJob}
use Rattle.beet_coalition.specs.Lists.{at_server}
use Rattle.beet_five_dealing.specs.FiveWords.{FiveWords}
use Rattle.beet_five_auction.specs.FiveEndings.{book_finish as finish_among_five, book_rounds as rounds_among_five}
use Rattle.beet_program_laws.specs.Outcomes.{ServersOpen, TellsOfFive, TellsSo, TellsTheEnd, are_spent_among_five}
use Rattle.beet_program_laws.proofs.Steps.{Yields}

not-one : (status : ℕ) → IsDoneCode status → status ≡ 1 → ⊥
not-one status (inl e) f = omega (arith, e, f)
not-one status (inr e) f = omega (arith, e, f)

not-two : (status : ℕ) → IsDoneCode status → status ≡ 2 → ⊥
not-two status (inl e) f = omega (arith, e, f)
not-two status (inr e) f = omega (arith, e, f)

not-three : (status : ℕ) → IsDoneCode status → status ≡ 3 → ⊥
not-three status (inl e) f = omega (arith, e, f)
not-three status (inr e) f = omega (arith, e, f)

not-four : (status : ℕ) → IsDoneCode status → status ≡ 4 → ⊥
not-four status (inl e) f = omega (arith, e, f)
not-four status (inr e) f = omega (arith, e, f)

-- an answer went out whole, with this status
pub record WentWhole (answer : Answer) (call : Call) : Type 0 where
  pub code : call.status ≡ code_of answer.status
  pub calls : Puts call answer.files answer.text

-- and it is one that is done
pub record WentOut (answer : Answer) (call : Call) : Type 0 where
  pub done : IsDone answer.status
  pub code : call.status ≡ code_of answer.status
  pub calls : Puts call answer.files answer.text

went-whole : (answer : Answer) (call : Call) (d : Done) → call.status ≢ 1 → call.status ≢ 4 →
    call.status ≡ code_of (status_after answer.status d) →
    GivesAll call.desk call.desk_now answer.files answer.text d → WentWhole answer call
went-whole answer call (Ok tt) spent failed e calls = record { code = e; calls = calls }
went-whole answer call (Err Failed) spent failed e calls = absurd (failed e)
went-whole answer call (Err NoMemoryToPut) spent failed e calls = absurd (spent e)

done-out : (answer : Answer) (call : Call) → IsDoneCode call.status → WentWhole answer call → WentOut answer call
done-out answer call w whole =
    record { done = done_end answer.status (subst IsDoneCode whole.code w); code = whole.code; calls = whole.calls }

-- the answer of an errand over the files went out whole
pub record EndsWhole (files : List File) (errand : Errand) (call : Call) : Type 0 where
  pub answer : Answer
  pub is : answer_over files errand ≡ answer
  pub out : WentWhole answer call

-- and it is one that is done
pub record EndsWith (files : List File) (errand : Errand) (call : Call) : Type 0 where
  pub answer : Answer
  pub is : answer_over files errand ≡ answer
  pub out : WentOut answer call

read-all : (answer over : Answer) (status : ℕ) → status ≢ 3 → status ≡ code_of answer.status →
    (answer.status ≡ Refused ReadFault) ⊎ (over ≡ answer) → over ≡ answer
read-all answer over status read e (inl unread) = absurd (read (e ∙ ap code_of unread))
read-all answer over status read e (inr is) = is

module _ (files : List File) (call : Call) (from : IsOf files call) (spent : call.status ≢ 1) (read : call.status ≢ 3)
    (failed : call.status ≢ 4) where
  whole-by : (errand rest : Errand) → Went call.shelf call.shelf_now errand rest →
      EndsBy rest call.desk call.desk_now call.status → EndsWhole files errand call
  whole-by errand (Ends answer) went (inl goes) = record {
    answer = answer;
    is = read-all answer (answer_over files errand) call.status read whole.code
        (went-end files call.shelf call.shelf_now from errand answer went);
    out = whole;
  } where
    whole : WentWhole answer call
    whole = went-whole answer call goes.done spent failed goes.code goes.calls
  whole-by errand (Ends answer) went (inr runs) = absurd (spent runs.code)
  whole-by errand (Wants name limit next) went runs = absurd (spent runs.code)

  -- an errand that is run to no failure has ended with its answer over the files
  run-whole : (errand : Errand) → Runs errand call.shelf call.shelf_now call.desk call.desk_now call.status →
      EndsWhole files errand call
  run-whole errand r = whole-by errand r.rest r.went r.ends

  -- words that name no job end with the status of the usage line, which is 2
  no-task : {A : Type 0} → call.status ≢ 2 →
      Runs (refuses Usage usage_text) call.shelf call.shelf_now call.desk call.desk_now call.status → A
  no-task named r =
      let e = run-whole (refuses Usage usage_text) r in
      absurd (named (e.out.code ∙ ap (λ (a : Answer). code_of a.status) (sym e.is)))

  -- so words that pass a test name the job of a table
  pub named-by : {J : Type 0} (task_for : Option J → Task) → task_for None ≡ NoTask → call.status ≢ 2 → (b : Bool)
      (job : Option J) →
      RunsTask (task_for (if b then job else None)) call.shelf call.shelf_now call.desk call.desk_now call.status →
      RunsTask (task_for job) call.shelf call.shelf_now call.desk call.desk_now call.status
  named-by task_for none named true job r = r
  named-by task_for none named false job r =
      no-task named (subst (λ task. RunsTask task call.shelf call.shelf_now call.desk call.desk_now call.status) none r)

module _ (files : List File) (call : Call) (from : IsOf files call) (w : IsDoneCode call.status) where
  pub run-ends : (errand : Errand) → Runs errand call.shelf call.shelf_now call.desk call.desk_now call.status →
      EndsWith files errand call
  run-ends errand r =
      let e = run-whole files call from (not-one call.status w) (not-three call.status w) (not-four call.status w) errand r in
      record { answer = e.answer; is = e.is; out = done-out e.answer call w e.out }

  pub named-in : {J : Type 0} (task_for : Option J → Task) → task_for None ≡ NoTask → (b : Bool) (job : Option J) →
      RunsTask (task_for (if b then job else None)) call.shelf call.shelf_now call.desk call.desk_now call.status →
      RunsTask (task_for job) call.shelf call.shelf_now call.desk call.desk_now call.status
  named-in task_for none b job r =
      named-by files call from (not-one call.status w) (not-three call.status w) (not-four call.status w) task_for none
      (not-two call.status w) b job r

  pub named : (b : Bool) (job : Option Job) → RunsJob (if b then job else None) call → RunsJob job call
  named b job r = named-in task_of refl b job r

  pub no-job : {A : Type 0} → RunsJob None call → A
  no-job r =
      no-task files call from (not-one call.status w) (not-three call.status w) (not-four call.status w)
      (not-two call.status w) r

  -- a step gave a value, and the answer that is made of it went out
  pub record Found {A : Type 0} (step : Step A) (answer : A → Answer) (P : A → Type 0) : Type 0 where
    pub value : A
    pub read : ReadsTo files step value
    pub holds : P value
    pub out : WentOut (answer value) call

  pub found : {A : Type 0} (step : Step A) (answer : A → Answer) (P : A → Type 0) → Yields files step P →
      Runs (step (λ value. Ends (answer value))) call.shelf call.shelf_now call.desk call.desk_now call.status →
      Found step answer P
  found step answer P y r =
      let e = run-ends (step (λ value. Ends (answer value))) r in
      let (value, reads, holds) =
      y (λ value. Ends (answer value)) (subst (λ (a : Answer). IsDone a.status) (sym e.is) e.out.done) in
      record {
        value = value;
        read = reads;
        holds = holds;
        out =
            subst (λ (a : Answer). WentOut a call) (sym e.is ∙ reads (λ value. Ends (answer value))) e.out;
      }

-- a run that begins at its end
at-rest : (answer : Answer) (call : Call) → call.status ≢ 1 → call.status ≢ 4 →
    EndsBy (Ends answer) call.desk call.desk_now call.status → WentWhole answer call
at-rest answer call spent failed (inl goes) = went-whole answer call goes.done spent failed goes.code goes.calls
at-rest answer call spent failed (inr runs) = absurd (spent runs.code)

pub answer-whole : (answer : Answer) (call : Call) → call.status ≢ 1 → call.status ≢ 4 →
    Runs (Ends answer) call.shelf_now call.shelf_now call.desk call.desk_now call.status → WentWhole answer call
answer-whole answer call spent failed r =
    at-rest answer call spent failed
    (subst (λ (e : Errand). EndsBy e call.desk call.desk_now call.status)
    (sym (at_end call.shelf_now call.shelf_now answer r.rest r.went)) r.ends)

-- a run with the status of a refusal of worlds, which is that of no failure and of no usage line
module _ (files : List File) (call : Call) (from : IsOf files call) (seven : call.status ≡ 7) where
  below : (status : ℕ) → status < 7 → call.status ≢ status
  below status few e = omega (arith, few, seven, e)

  pub refused-answer : (answer : Answer) →
      Runs (Ends answer) call.shelf_now call.shelf_now call.desk call.desk_now call.status → WentWhole answer call
  refused-answer answer r = answer-whole answer call (below 1 (omega arith)) (below 4 (omega arith)) r

  pub refused-whole : (errand : Errand) → Runs errand call.shelf call.shelf_now call.desk call.desk_now call.status →
      EndsWhole files errand call
  refused-whole errand r =
      run-whole files call from (below 1 (omega arith)) (below 3 (omega arith)) (below 4 (omega arith)) errand r

  pub no-usage : {A : Type 0} → Runs (refuses Usage usage_text) call.shelf call.shelf_now call.desk call.desk_now call.status → A
  no-usage r =
      no-task files call from (below 1 (omega arith)) (below 3 (omega arith)) (below 4 (omega arith)) (below 2 (omega arith)) r

answer-ends : (answer : Answer) (call : Call) → IsDoneCode call.status →
    Runs (Ends answer) call.shelf_now call.shelf_now call.desk call.desk_now call.status → WentOut answer call
answer-ends answer call w r =
    done-out answer call w (answer-whole answer call (not-one call.status w) (not-four call.status w) r)

module _ (files : List File) (call : Call) (from : IsOf files call) (w : IsDoneCode call.status) where
  -- a job that shows and is done ended with an answer that shows: no errand is done that reads and goes on to a refusal
  pub shown-ends : {A C : Type 0} (own : OwnRefusal) (step : Step A) (shows : Shows) →
      (IsDone (answer_over files (step (λ value. refuses (Own own) []))).status → ⊥) →
      ((answer : Answer) → shows call.shelf call.shelf_now answer → WentOut answer call → C) →
      RunsTask (ToShow own step shows) call.shelf call.shelf_now call.desk call.desk_now call.status → C
  shown-ends own step shows not each (inl (answer, shown, r)) =
      each answer shown (answer-ends answer call w r)
  shown-ends own step shows not each (inr f) =
      let e = run-ends files call from w (step (λ value. refuses (Own own) []))
      (f (λ value. refuses (Own own) [])) in
      absurd (not (subst (λ (a : Answer). IsDone a.status) (sym e.is) e.out.done))

-- ---- what is told

end-tells : (b : Bool) (o : Outcome) (status : ℕ) →
    status ≡ code_of (status_of (if b then MasksSpent else finish_of o)) →
    (status ≡ 0 → b ≡ false) × (status ≡ 6 → b ≡ true)
end-tells true o status e = (λ f. absurd (omega (arith, e, f)), λ f. refl)
end-tells false (Price place price volume supply) status e = (λ f. refl, λ f. absurd (omega (arith, e, f)))
end-tells false No status e = (λ f. refl, λ f. absurd (omega (arith, e, f)))

tells-so : (b : Bool) (book : Book) (rounds status : ℕ) →
    status ≡ code_of (status_of (if b then MasksSpent else finish_of (outcome_of book))) →
    TellsSo b book rounds status (outcome_text book.grid (if b then MasksSpent else finish_of (outcome_of book)) rounds)
tells-so b book rounds status e =
    let h = end-tells b (outcome_of book) status e in
    record {
      opened = λ f. (h.0 f, λ i. outcome_text book.grid (if h.0 f i then MasksSpent else finish_of (outcome_of book)) rounds);
      spent = λ f. (h.1 f, λ i. outcome_text book.grid (if h.1 f i then MasksSpent else finish_of (outcome_of book)) rounds);
    }

pub tells : (book : Book) (words : Words) (status : ℕ) → status ≡ code_of (status_of (book_finish book words.masks)) →
    TellsTheEnd book words status (outcome_text book.grid (book_finish book words.masks) (book_rounds book words.masks))
tells book words status e = tells-so (are_spent book words) book (book_rounds book words.masks) status e

pub tells-of-five : (book : Book) (words : FiveWords) (status : ℕ) →
    status ≡ code_of (status_of (finish_among_five book (at_server words.masks))) →
    TellsOfFive book words status (outcome_text book.grid (finish_among_five book (at_server words.masks))
    (rounds_among_five book (at_server words.masks)))
tells-of-five book words status e =
    tells-so (are_spent_among_five book words) book (rounds_among_five book (at_server words.masks)) status e

pub servers-open : (book : Book) (words : Words) → IsBook book → CanRun book words → ServersOpen book words
servers-open book words b runs = record { is_book = b; can_run = runs; opens = λ es s. stands book words b runs es s }
