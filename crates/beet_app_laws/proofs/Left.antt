-- What a run leaves, by its exit status.
use Rattle.std.proofs.Common.{◌≡◌, inl, inr, ℕ, List, [], ◌∷◌, Option, Some, None, Ok, Err, ap, sym, subst, ◌∙◌, arith}
use Rattle.std.proofs.Common.{refl}
use Rattle.std.specs.Prelude.{map}
use Rattle.beet_store.specs.Files.{File, Told}
use Rattle.beet_store.specs.Desks.{DeskTold, Done, Given, LeavesGiven, Put}
use Rattle.beet_store.specs.declared.desk.PutFault.{PutFault}
use Rattle.beet_store.specs.declared.desk.PutFault.TheVariants.{Failed, OutOfMemory as NoMemoryToPut}
use Rattle.beet_errand.specs.Errands.{Answer, Errand, Ends, Step, Wants, answers, refuses}
use Rattle.beet_errand.specs.Fetches.{IsDone, Went}
use Rattle.beet_errand.specs.Runs.{EndsBy, GivesAll, Runs, RunsOut, Said, status_after}
use Rattle.beet_errand.specs.Statuses.{code_of}
use Rattle.beet_errand.specs.Tasks.{RunsTask, Shows, ToShow}
use Rattle.beet_errand.specs.Texts.{usage_text}
use Rattle.beet_errand.specs.declared.answer.OwnRefusal.{OwnRefusal}
use Rattle.beet_errand.specs.declared.answer.OwnRefusal.TheVariants.{OfWorlds, OfAudit}
use Rattle.beet_errand.specs.declared.answer.Refusal.{Refusal}
use Rattle.beet_errand.specs.declared.answer.Refusal.TheVariants.{Usage}
use Rattle.beet_errand.specs.declared.answer.Status.{Status}
use Rattle.beet_errand.specs.declared.answer.Status.TheVariants.{Done as JobDone, MasksSpent, OutOfMemory as NoMemory}
use Rattle.beet_errand.specs.declared.answer.Status.TheVariants.{WriteFault, Refused as IsRefused}
use Rattle.beet_errand.proofs.Statuses.{not_done, same_end}
use Rattle.beet_errand.proofs.Putting.{LeavesAll, leaves_all}
use Rattle.beet_app.specs.Doing.{task_of}
use Rattle.beet_app.specs.Jobs.{Job, Answering, Comparing, ComparingForTwo, Auditing, job_of}
use Rattle.beet_job_worlds.specs.Ending.{ShowsWorlds, compared_errand, worlds_task}
use Rattle.beet_job_five_worlds.specs.Ending.{ShowsFiveWorlds, compared_errand as compared_for_two, five_worlds_task}
use Rattle.beet_job_audit.specs.Ending.{ShowsAudit}
use Rattle.beet_job_audit.specs.Reading.{read_errand}
use Rattle.beet_app_laws.specs.Calls.{Call, RunsJobOf}
use Rattle.beet_app_laws.specs.Leavings.{AreOutputs, EndsShort, IsRefusal, LeavesBy, SaysNothing, last_word}
use Rattle.beet_app_laws.specs.Refusals.{IsLineOf}
use Rattle.beet_app_laws.proofs.Answers.{EndsWell, IsAnswer, StepsWell, refused-well, went-well}
use Rattle.beet_app_laws.proofs.JobAnswers.{JobEndsWell, audited-well, compared-for-two-well, compared-well, job-well, read-well}
use Rattle.beet_app_laws.proofs.JobAnswers.{shown-for-two-well, shown-well}

-- no other end has the status of a refusal
no-refusal : (end : Status) (status : ℕ) → status ≡ code_of end → ((refusal : Refusal) → end ≡ IsRefused refusal → ⊥) →
    IsRefusal status → ⊥
no-refusal end status e not (refusal, f) = not refusal (same_end end (IsRefused refusal) (sym e ∙ f))

module _ (out : List ℕ) (call : Call) where
  at-memory : call.status ≡ 1 → EndsShort out call.desk call.desk_now → LeavesBy out call
  at-memory e h = record {
    memory = λ f. h;
    refused = λ r. absurd (no-refusal NoMemory call.status e (λ refusal f. cc) r);
    write = λ f. absurd (omega (arith, e, f));
    whole = λ w. absurd (elim w [ inl f ↦ omega (arith, e, f) | inr f ↦ omega (arith, e, f) ]);
  }

  at-fault : (files : List File) (text : List ℕ) → AreOutputs out (map (λ file. file.0) files) → call.status ≡ 4 →
      GivesAll call.desk call.desk_now files text (Err Failed) → LeavesBy out call
  at-fault files text names e calls = record {
    memory = λ f. absurd (omega (arith, e, f));
    refused = λ r. absurd (no-refusal WriteFault call.status e (λ refusal f. cc) r);
    write = λ f. record { files = files; names = names; text = text; calls = calls };
    whole = λ w. absurd (elim w [ inl f ↦ omega (arith, e, f) | inr f ↦ omega (arith, e, f) ]);
  }

  at-end : (end : Status) (files : List File) (text : List ℕ) → AreOutputs out (map (λ file. file.0) files) →
      call.status ≡ code_of end → IsDone end →
      GivesAll call.desk call.desk_now files text (Ok tt) → LeavesBy out call
  at-end end files text names e done calls = record {
    memory = λ f. absurd
        (elim done [ inl d ↦ omega (arith, sym e ∙ f, ap code_of d) | inr d ↦ omega (arith, sym e ∙ f, ap code_of d) ]);
    refused = λ r. absurd (no-refusal end call.status e (λ refusal f. not_done refusal (subst IsDone f done)) r);
    write = λ f. absurd
        (elim done [ inl d ↦ omega (arith, sym e ∙ f, ap code_of d) | inr d ↦ omega (arith, sym e ∙ f, ap code_of d) ]);
    whole = λ w. record { files = files; names = names; text = text; calls = calls };
  }

  at-refusal : (refusal : Refusal) (line : List ℕ) → call.status ≡ code_of (IsRefused refusal) → IsLineOf refusal line →
      Said call.desk call.desk_now line →
      LeavesBy out call
  at-refusal refusal line e h said = record {
    memory = λ f. absurd (other NoMemory (sym e ∙ f) (λ g. cc));
    refused = λ r. record { refusal = refusal; code = e; line = line; is_line = h; said = said };
    write = λ f. absurd (other WriteFault (sym e ∙ f) (λ g. cc));
    whole = λ w. absurd
        (elim w [ inl f ↦ other JobDone (sym e ∙ f) (λ g. cc) | inr f ↦ other MasksSpent (sym e ∙ f) (λ g. cc) ]);
  } where
    other : (end : Status) → code_of (IsRefused refusal) ≡ code_of end → (IsRefused refusal ≡ end → ⊥) → ⊥
    other end f not = not (same_end (IsRefused refusal) end f)

said-on : (given middle : Given) (now : Option Given) → middle.said ≡ given.said → SaysNothing (Some middle) now →
    SaysNothing (Some given) now
said-on given middle None e h = absurd h
said-on given middle (Some now) e h = h ∙ e

-- where a put found no memory, nothing was said
silent-put : (file : File) (fault : PutFault) (given now : Option Given) → NoMemoryToPut ≡ fault →
    LeavesGiven given now (Put file.0 file.1 (Err fault)) →
    SaysNothing given now
silent-put file Failed given now e call = absurd cc
silent-put file NoMemoryToPut None now e call = call
silent-put file NoMemoryToPut (Some given) None e call = absurd call
silent-put file NoMemoryToPut (Some given) (Some now) e call = call.said

-- where a call found no memory, nothing was said
silent : (files : List File) (text : List ℕ) (given now : Option Given) →
    LeavesAll given now files text (Err NoMemoryToPut) → SaysNothing given now
silent [] text None now call = call
silent [] text (Some given) None call = absurd call
silent [] text (Some given) (Some now) call = call.said
silent (file ∷ files) text None now (inl (None, put, rest)) = silent files text None now rest
silent (file ∷ files) text None now (inl (Some middle, put, rest)) = absurd cc
silent (file ∷ files) text (Some given) now (inl (None, put, rest)) = absurd put
silent (file ∷ files) text (Some given) now (inl (Some middle, put, rest)) =
    said-on given middle now put.rest.said (silent files text (Some middle) now rest)
silent (file ∷ files) text given now (inr (fault, e, put)) =
    let same : NoMemoryToPut ≡ fault = cc in silent-put file fault given now same put

same-says-nothing : (given now : Option Given) → now ≡ given → SaysNothing given now
same-says-nothing None now e = e
same-says-nothing (Some given) None e = absurd cc
same-says-nothing (Some given) (Some now) e = let same : now ≡ given = cc in ap (λ (g : Given). g.said) same

-- a line that goes out alone is said
alone : (files : List File) (text : List ℕ) (given now : DeskTold) → files ≡ [] →
    GivesAll given now files text (Ok tt) → Said given now text
alone [] text given now e calls = calls
alone (file ∷ files) text given now e calls = absurd cc

-- the names of the files of an answer
outputs-of : (out : List ℕ) (answer : Answer) → IsAnswer out answer → AreOutputs out (map (λ file. file.0) answer.files)
outputs-of out answer (inl (done, names)) = names
outputs-of out answer (inr (refusal, is, line, none)) = inl (ap (λ files. map (λ (file : File). file.0) files) none)

module _ (out : List ℕ) (call : Call) where
  -- an answer that went out whole
  whole-left : (answer : Answer) → IsAnswer out answer → call.status ≡ code_of answer.status →
      GivesAll call.desk call.desk_now answer.files answer.text (Ok tt) → LeavesBy out call
  whole-left answer (inl (done, names)) e calls =
      at-end out call answer.status answer.files answer.text names e done calls
  whole-left answer (inr (refusal, is, line, none)) e calls =
      at-refusal out call refusal answer.text (e ∙ ap code_of is) line
      (alone answer.files answer.text call.desk call.desk_now none calls)

  out-left : (answer : Answer) → IsAnswer out answer → (done : Done) →
      call.status ≡ code_of (status_after answer.status done) →
      GivesAll call.desk call.desk_now answer.files answer.text done → LeavesBy out call
  out-left answer w (Ok tt) e calls = whole-left answer w e calls
  out-left answer w (Err Failed) e calls =
      at-fault out call answer.files answer.text (outputs-of out answer w) e calls
  out-left answer w (Err NoMemoryToPut) e calls = at-memory out call e (record {
    silent = silent answer.files answer.text call.desk.given call.desk_now.given
        (leaves_all call.desk call.desk_now answer.files answer.text (Err NoMemoryToPut) calls);
    calls = inr (answer.files, answer.text, outputs-of out answer w, calls);
  })

  -- memory ran out before the desk was called
  none-left : RunsOut call.desk call.desk_now call.status → LeavesBy out call
  none-left runs = at-memory out call runs.code (record {
    silent = same-says-nothing call.desk.given call.desk_now.given (ap (λ (d : DeskTold). d.given) runs.same);
    calls = inl runs.same;
  })

  -- a run of an errand that ends well
  runs-left : (errand rest : Errand) (told told_now : Told) → EndsWell out errand → Went told told_now errand rest →
      EndsBy rest call.desk call.desk_now call.status → LeavesBy out call
  runs-left errand (Ends answer) told told_now w went (inl goes) =
      out-left answer (went-well out told told_now errand answer w went) goes.done goes.code goes.calls
  runs-left errand (Ends answer) told told_now w went (inr runs) = none-left runs
  runs-left errand (Wants name limit next) told told_now w went runs = none-left runs

  run-left : (errand : Errand) (told told_now : Told) → EndsWell out errand →
      Runs errand told told_now call.desk call.desk_now call.status → LeavesBy out call
  run-left errand told told_now w r = runs-left errand r.rest told told_now w r.went r.ends

  -- a job that shows: any answer stands for what comes after the step that it reads by
  shows-left : {A : Type 0} (own : OwnRefusal) (step : Step A) (shows : Shows) (told told_now : Told) →
      StepsWell out step →
      ((answer : Answer) → shows told told_now answer → IsAnswer out answer) →
      RunsTask (ToShow own step shows) told told_now call.desk call.desk_now call.status →
      LeavesBy out call
  shows-left own step shows told told_now w is (inl (answer, shown, r)) =
      run-left (Ends answer) told_now told_now (is answer shown) r
  shows-left own step shows told told_now w is (inr f) =
      run-left (step (λ value. answers JobDone [])) told told_now
      (w (λ value. answers JobDone []) (λ value. inl (inl refl, inl refl))) (f (λ value. answers JobDone []))

  job-left : (job : Option Job) (told told_now : Told) → JobEndsWell out job →
      RunsTask (task_of job) told told_now call.desk call.desk_now call.status → LeavesBy out call
  job-left None told told_now w r = run-left (refuses Usage usage_text) told told_now (refused-well out Usage _ refl) r
  job-left (Some (Answering errand)) told told_now w r = run-left errand told told_now w r
  job-left (Some (Comparing auction servers first second s name)) told told_now w r =
      shows-left OfWorlds (compared_errand auction servers first second s)
      (ShowsWorlds auction servers first second s out) told told_now
      (compared-well out auction servers first second s)
      (λ answer shown. shown-well out s shown.value answer shown.shown)
      (subst (λ n. RunsTask (worlds_task auction servers first second s n) told told_now call.desk call.desk_now call.status) w r)
  job-left (Some (ComparingForTwo auction servers first second two name)) told told_now w r =
      shows-left OfWorlds (compared_for_two auction servers first second two.0 two.1)
      (ShowsFiveWorlds auction servers first second two.0 two.1 out) told told_now
      (compared-for-two-well out auction servers first second two.0 two.1)
      (λ answer shown. shown-for-two-well out two.0 two.1 shown.value answer shown.shown)
      (subst (λ n. RunsTask (five_worlds_task auction servers first second two.0 two.1 n) told told_now call.desk
      call.desk_now call.status) w r)
  job-left (Some (Auditing auction one two three)) told told_now w r =
      shows-left OfAudit (read_errand auction one two three) (ShowsAudit auction one two three) told told_now
      (read-well out auction one two three) (λ answer shown. audited-well out shown.value answer shown.shown) r

pub left : (words : List (List ℕ)) (call : Call) → RunsJobOf words call → LeavesBy (last_word words) call
left words call r = job-left (last_word words) call (job_of words) call.shelf call.shelf_now (job-well words) r
