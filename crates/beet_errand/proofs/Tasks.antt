-- How a run of a program ends, for the task of its words.
use Rattle.std.proofs.Common.{◌≡◌, ◌≤◌, ◌⊎◌, inl, inr, ℕ, [], Option, Some, None, Result, Ok, Err, IfOk, Vec, Global}
use Rattle.std.proofs.Common.{ap, sym, ◌∙◌, arith, refl, subst}
use Rattle.beet_store.specs.Causes.{Rose}
use Rattle.beet_store.specs.Files.{Seen, Told}
use Rattle.beet_store.specs.Desks.{DeskSeen, DeskTold, Done}
use Rattle.beet_store.specs.declared.desk.PutFault.TheVariants.{Failed, OutOfMemory as NoMemoryToPut}
use Rattle.beet_errand.specs.Errands.{Answer, Errand, Ends, Step, refuses, text_answer}
use Rattle.beet_errand.specs.Fetches.{CauseOf, Causes, IsDone, IsRead, Reads, Refuses, Stops, Went}
use Rattle.beet_errand.specs.Runs.{EndGoesOut, EndsBy, GivesAll, Said, status_after}
use Rattle.beet_errand.specs.Statuses.{code_of}
use Rattle.beet_errand.specs.Tasks.{DoesNamed, DoesRun, DoesTask, EndsFor, EndsRun, IsNoTask, LeavesShown, MayRefuse}
use Rattle.beet_errand.specs.Tasks.{OfTask, OrUsage, RunsTask, Shows, Task, NoTask, ToAnswer, ToShow}
use Rattle.beet_errand.specs.Texts.{usage_text}
use Rattle.beet_errand.specs.declared.answer.OwnRefusal.{OwnRefusal}
use Rattle.beet_errand.specs.declared.answer.OwnRefusal.TheVariants.{OfWorlds, OfAudit}
use Rattle.beet_errand.specs.declared.answer.Refusal.{Refusal}
use Rattle.beet_errand.specs.declared.answer.Refusal.TheVariants.{Usage, ReadFault, BadFile, TooFewWords, Own}
use Rattle.beet_errand.specs.declared.answer.Status.{Status}
use Rattle.beet_errand.specs.declared.answer.Status.TheVariants.{Done as JobDone, MasksSpent, OutOfMemory as NoMemory}
use Rattle.beet_errand.specs.declared.answer.Status.TheVariants.{WriteFault, Refused as IsRefused}
use Rattle.beet_errand.specs.declared.answer.Stop.{Stop}
use Rattle.beet_errand.specs.declared.answer.Stop.TheVariants.{Refused, OutOfMemory}
use Rattle.beet_errand.proofs.Ending.{desk_kept, due_of, end_cases, later_end, runs_of}
use Rattle.beet_errand.proofs.Frame.{does}
use Rattle.beet_errand.proofs.Statuses.{done_end, is_status, not_done, same_end}
use Rattle.beet_errand.proofs.Steps.{at_end, went_none}

-- what a job reads alone is a cause for any task
any_cause : (unnamed : Type 0) (own : OwnRefusal → Type 0) (before now : ℕ) (refusal : Refusal) →
    CauseOf ⊥ (λ own. ⊥) before now refusal → CauseOf unnamed own before now refusal
any_cause unnamed own before now Usage h = absurd h.0
any_cause unnamed own before now ReadFault h = h
any_cause unnamed own before now BadFile h = h
any_cause unnamed own before now TooFewWords h = h
any_cause unnamed own before now (Own refusal) h = absurd h.0

stop_ends : (task : Task) (before now : ℕ) (stop : Stop) → Causes before now stop → EndsFor task before now (Err stop)
stop_ends task before now (Refused refusal line) h = any_cause (IsNoTask task) (λ own. MayRefuse own task) before now refusal h
stop_ends task before now OutOfMemory h = h

-- a job that answers does its task
pub answers_task : (job : Step Answer) {old now : Seen} (result : Result Answer Stop) →
    IfOk result (λ answer. IsDone answer.status) → Reads (λ answer. answer) old now job result →
    DoesTask (ToAnswer (job Ends)) old now result
answers_task job (Ok answer) done r =
    let d = does (Ok answer) r in record { finishes = d.finishes; ends = (done, d.cause); shows = tt; later = d.later }
answers_task job {old = old} {now = now} (Err stop) done r =
    let d = does (Err stop) r in
    record {
      finishes = d.finishes;
      ends = stop_ends (ToAnswer (job Ends)) old.faults now.faults stop d.cause;
      shows = tt;
      later = d.later;
    }

-- a value that a call gave is read by its step
pub read_value : {A T : Type 0} {view : T → A} {old now : Seen} {step : Step A} {value : T} → Reads view old now step (Ok value) →
    IsRead old.told now.told step (view value)
read_value {old = old} {now = now} {step = step} r =
    λ next. subst (λ a. Went old.told now.told (step next) (next a)) r.gives.1 (r.gives.2 next)

module _ {A : Type 0} {own : OwnRefusal} {step : Step A} {shows : Shows} {old now : Seen} where
  -- a job that shows ends by an answer that does
  pub shown_ends : (answer : Answer) → IsDone answer.status → shows old.told now.told answer → now.faults ≡ old.faults →
      DoesTask (ToShow own step shows) old now (Ok answer)
  shown_ends answer done shown same = record {
    finishes = inl (answer, shown, went_none now.told (Ends answer));
    ends = (done, same);
    shows = shown;
    later = omega (arith, same);
  }

  -- or by a refusal of its own that does
  pub shown_refused : (line : Vec ℕ Global) → shows old.told now.told (text_answer (IsRefused (Own own)) line.items) →
      now.faults ≡ old.faults → DoesTask (ToShow own step shows) old now (Err (Refused (Own own) line))
  shown_refused line shown same = record {
    finishes = inl (text_answer (IsRefused (Own own)) line.items, shown, went_none now.told (refuses (Own own) line.items));
    ends = (refl, same);
    shows = tt;
    later = omega (arith, same);
  }

  -- or it stops while it reads
  pub reading_stops : (stop : Stop) → Stops old.told now.told step stop → EndsFor (ToShow own step shows) old.faults now.faults (Err stop) →
      old.faults ≤ now.faults → DoesTask (ToShow own step shows) old now (Err stop)
  reading_stops (Refused refusal line) s ends le = record { finishes = inr s; ends = ends; shows = tt; later = le }
  reading_stops OutOfMemory s ends le = record { finishes = inr s; ends = ends; shows = tt; later = le }

  pub unread_stops : {T : Type 0} {view : T → A} {stop : Stop} → Reads view old now step (Err stop) →
      DoesTask (ToShow own step shows) old now (Err stop)
  unread_stops {stop = stop} r = reading_stops stop r.gives (stop_ends (ToShow own step shows) old.faults now.faults stop r.cause) r.later

-- what holds of an errand and makes something else hold of it does so of a task
pub of_more : {P Q : Told → Errand → Type 0} (task : Task) (old now : Told) →
    ((told : Told) (errand : Errand) → P told errand → Q told errand) → OfTask task old now P → OfTask task old now Q
of_more NoTask old now f h = f _ _ h
of_more (ToAnswer errand) old now f h = f _ _ h
of_more (ToShow own step shows) old now f (inl (answer, shown, h)) = inl (answer, shown, f _ _ h)
of_more (ToShow own step shows) old now f (inr h) = inr (λ next. f _ _ (h next))

-- words that name no job fetch nothing
usage_does : (seen : Seen) (task : Task) (stop : Stop) → IsNoTask task → Refuses Usage usage_text stop → DoesTask task seen seen (Err stop)
usage_does seen NoTask (Refused refusal line) e r = record {
  finishes = rw (r.0, r.1) (went_none seen.told (refuses Usage usage_text));
  ends = rw r.0 (tt, refl);
  shows = tt;
  later = omega arith;
}
usage_does seen NoTask OutOfMemory e r = record {
  finishes = (refuses Usage usage_text, went_none seen.told (refuses Usage usage_text));
  ends = refl;
  shows = tt;
  later = omega arith;
}
usage_does seen (ToAnswer errand) stop e r = absurd e
usage_does seen (ToShow own step shows) stop e r = absurd e

named_does : (task : Task) (old now : Seen) (named : Option (Result Answer Stop)) (result : Result Answer Stop) →
    DoesNamed task old now named → OrUsage named result → DoesTask task old now result
named_does task old now (Some given) result d is = subst (DoesTask task old now) (sym is) d
named_does task old now None (Ok answer) d is = absurd is
named_does task old now None (Err stop) d is =
    subst (λ (seen : Seen). DoesTask task old seen (Err stop)) (sym d.1) (usage_does old task stop d.0 is)

-- ---- the cause of the status

-- the cause of each end of a run, where `unwritten` is that of a file or a text that is not taken
abbrev EndCause : Task → ℕ → ℕ → Type 0 → Status → Type 0
EndCause task before now unwritten JobDone = Unit {0}
EndCause task before now unwritten MasksSpent = Unit {0}
EndCause task before now unwritten NoMemory = Unit {0}
EndCause task before now unwritten WriteFault = unwritten
EndCause task before now unwritten (IsRefused refusal) = CauseOf (IsNoTask task) (λ own. MayRefuse own task) before now refusal

module _ (task : Task) (before now : ℕ) (desk desk_now : DeskSeen) where
  done_cause : (end : Status) → IsDone end → EndCause task before now (Rose desk.faults desk_now.faults) end
  done_cause end (inl e) = rw e tt
  done_cause end (inr e) = rw e tt

  -- what is due has its cause
  due_cause : (result : Result Answer Stop) → EndsFor task before now result →
      EndCause task before now (Rose desk.faults desk_now.faults) (due_of result)
  due_cause (Ok answer) h = done_cause answer.status h.0
  due_cause (Err (Refused refusal line)) h = h
  due_cause (Err OutOfMemory) h = tt

  -- and so has what stands in its place
  end_cause : (result : Result Answer Stop) (end : Status) → EndsFor task before now result → EndGoesOut desk desk_now result end →
      EndCause task before now (Rose desk.faults desk_now.faults) end
  end_cause result end h out = elim (end_cases desk desk_now result end out) [
    | inl e ↦ rw e (due_cause result h)
    | inr (inl (e, rose)) ↦ rw e rose
    | inr (inr e) ↦ rw e tt
  ]

-- the count of the shelf is as it was after a refusal, unless a file cannot be fetched
refusal_kept : (unnamed : Type 0) (own : OwnRefusal → Type 0) (before now : ℕ) (refusal : Refusal) →
    CauseOf unnamed own before now refusal → (refusal ≡ ReadFault) ⊎ (now ≡ before)
refusal_kept unnamed own before now Usage h = inr h.1
refusal_kept unnamed own before now ReadFault h = inl refl
refusal_kept unnamed own before now BadFile h = inr h
refusal_kept unnamed own before now TooFewWords h = inr h
refusal_kept unnamed own before now (Own refusal) h = inr h.1

-- and after a job, unless it ends so
due_kept : (task : Task) (before now : ℕ) (result : Result Answer Stop) → EndsFor task before now result →
    (due_of result ≡ IsRefused ReadFault) ⊎ (now ≡ before)
due_kept task before now (Ok answer) h = inr h.1
due_kept task before now (Err (Refused refusal line)) h =
    elim (refusal_kept (IsNoTask task) (λ own. MayRefuse own task) before now refusal h) [
      | inl e ↦ inl (ap IsRefused e)
      | inr same ↦ inr same
    ]
due_kept task before now (Err OutOfMemory) h = inr h

-- so that it is as it was after a run at every other status than these
shelf_kept : (task : Task) (before now : ℕ) (desk desk_now : DeskSeen) (result : Result Answer Stop) (end : Status) →
    EndsFor task before now result → EndGoesOut desk desk_now result end →
    (code_of end ≡ 1) ⊎ (code_of end ≡ 3) ⊎ (code_of end ≡ 4) ⊎ (now ≡ before)
shelf_kept task before now desk desk_now result end h out = elim (due_kept task before now result h) [
  | inl due ↦ (elim (end_cases desk desk_now result end out) [
    | inl e ↦ inr (inl (ap code_of (e ∙ due)))
    | inr (inl (e, rose)) ↦ inr (inr (inl (ap code_of e)))
    | inr (inr e) ↦ inl (ap code_of e)
  ])
  | inr same ↦ inr (inr (inr same))
]

-- ---- words that name no job

-- the usage line was said and its status answered, or the desk failed or memory ran out
abbrev UsageEnds : DeskTold → DeskTold → ℕ → Type 0
UsageEnds desk desk_now status = ((status ≡ 2) × Said desk desk_now usage_text) ⊎ (status ≡ 1) ⊎ (status ≡ 4)

-- a run for words that name no job ends so
usage_ends : (task : Task) (told told_now : Told) (desk desk_now : DeskTold) (status : ℕ) →
    RunsTask task told told_now desk desk_now status → IsNoTask task → UsageEnds desk desk_now status
usage_ends NoTask told told_now desk desk_now status r none =
    go (subst (λ e. EndsBy e desk desk_now status) (sym (at_end told told_now usage r.rest r.went)) r.ends) where
      usage : Answer
      usage = text_answer (IsRefused Usage) usage_text

      out : (done : Done) → GivesAll desk desk_now [] usage_text done →
          status ≡ code_of (status_after (IsRefused Usage) done) → UsageEnds desk desk_now status
      out (Ok tt) calls e = inl (e, calls)
      out (Err Failed) calls e = inr (inr e)
      out (Err NoMemoryToPut) calls e = inr (inl e)

      go : EndsBy (refuses Usage usage_text) desk desk_now status → UsageEnds desk desk_now status
      go (inl goes) = out goes.done goes.calls goes.code
      go (inr short) = inr (inl short.code)
usage_ends (ToAnswer errand) told told_now desk desk_now status r none = absurd none
usage_ends (ToShow own step shows) told told_now desk desk_now status r none = absurd none

-- ---- what is shown

-- a desk that refused a call ends no run as done
all_taken : (due end : Status) (done : Done) → end ≡ status_after due done → IsDone end → done ≡ Ok tt
all_taken due end (Ok tt) e h = refl
all_taken due end (Err Failed) e (inl d) = absurd (let no : WriteFault ≡ JobDone = sym e ∙ d in cc)
all_taken due end (Err Failed) e (inr d) = absurd (let no : WriteFault ≡ MasksSpent = sym e ∙ d in cc)
all_taken due end (Err NoMemoryToPut) e (inl d) = absurd (let no : NoMemory ≡ JobDone = sym e ∙ d in cc)
all_taken due end (Err NoMemoryToPut) e (inr d) = absurd (let no : NoMemory ≡ MasksSpent = sym e ∙ d in cc)

-- nor does a job that is refused, whatever comes of its answer
refused_else : (refusal : Refusal) (end : Status) (done : Done) → end ≡ status_after (IsRefused refusal) done → IsDone end → ⊥
refused_else refusal end done e h =
    not_done refusal (subst IsDone (e ∙ ap (status_after (IsRefused refusal)) (all_taken (IsRefused refusal) end done e h)) h)

not_short : (end : Status) → end ≡ NoMemory → IsDone end → ⊥
not_short end e (inl d) = let no : NoMemory ≡ JobDone = sym e ∙ d in cc
not_short end e (inr d) = let no : NoMemory ≡ MasksSpent = sym e ∙ d in cc

-- a task that shows and is done has left its answer
run_shows : (task : Task) (old now : Seen) (desk desk_now : DeskSeen) (result : Result Answer Stop) (end : Status) →
    DoesTask task old now result → EndGoesOut desk desk_now result end → IsDone end →
    LeavesShown task old.told now.told desk.told desk_now.told
run_shows NoTask old now desk desk_now result end d goes h = tt
run_shows (ToAnswer errand) old now desk desk_now result end d goes h = tt
run_shows (ToShow own step shows) old now desk desk_now (Ok answer) end d goes h =
    let taken = all_taken answer.status end goes.done goes.status h in
    let calls = subst (GivesAll desk.told desk_now.told answer.files answer.text) taken goes.gives.calls in
    (answer, d.shows, d.ends.0, calls)
run_shows (ToShow own step shows) old now desk desk_now (Err (Refused refusal line)) end d goes h =
    absurd (refused_else refusal end goes.done goes.status h)
run_shows (ToShow own step shows) old now desk desk_now (Err OutOfMemory) end d goes h = absurd (not_short end goes.0 h)

-- ---- a run

-- a run does its task, and its end goes out
run_does : (task : Task) (old now : Seen) (desk desk_now : DeskSeen) (result : Result Answer Stop) (end : Status) →
    DoesTask task old now result → EndGoesOut desk desk_now result end → DoesRun task old now desk desk_now (code_of end)
run_does task old now desk desk_now result end d out =
    let Caused : Status → Type 0 = EndCause task old.faults now.faults (Rose desk.faults desk_now.faults) in
    let cause = end_cause task old.faults now.faults desk desk_now result end d.ends out in
    let runs = of_more task old.told now.told (λ told errand f. runs_of errand told now.told desk desk_now result end f out) d.finishes in
    let of : (status : Status) → code_of end ≡ code_of status → Caused status = λ status e. subst Caused (same_end end status e) cause in
    let usage : code_of end ≡ 2 → IsNoTask task = λ e. (of (IsRefused Usage) e).0 in
    record {
      known = is_status end;
      usage = usage;
      usage_line = λ e. (elim (usage_ends task old.told now.told desk.told desk_now.told (code_of end) runs (usage e)) [
        | inl (two, said) ↦ said
        | inr (inl one) ↦ absurd (omega (arith, e, one))
        | inr (inr four) ↦ absurd (omega (arith, e, four))
      ]);
      no_job = λ none. (elim (usage_ends task old.told now.told desk.told desk_now.told (code_of end) runs none) [
        | inl (two, said) ↦ inl two
        | inr other ↦ inr other
      ]);
      read = λ e. of (IsRefused ReadFault) e;
      write = λ e. of WriteFault e;
      desk_count = desk_kept desk desk_now result end out;
      shelf_count = shelf_kept task old.faults now.faults desk desk_now result end d.ends out;
      shelf_faults = d.later;
      desk_faults = later_end desk desk_now result end out;
      worlds = λ e. (of (IsRefused (Own OfWorlds)) e).0;
      audit = λ e. (of (IsRefused (Own OfAudit)) e).0;
      runs = runs;
      shows = λ done. run_shows task old now desk desk_now result end d out (done_end end done);
    }

-- a run that does the job of its words, or says the usage line where they name none, and gives what comes of it to the desk
pub named_run : (task : Task) (old now : Seen) (desk desk_now : DeskSeen) (named : Option (Result Answer Stop)) (status : ℕ) →
    DoesNamed task old now named → EndsRun named desk desk_now status → DoesRun task old now desk desk_now status
named_run task old now desk desk_now named status d e =
    subst (DoesRun task old now desk desk_now) (sym e.code)
    (run_does task old now desk desk_now e.result e.end (named_does task old now named e.result d e.is) e.goes)
