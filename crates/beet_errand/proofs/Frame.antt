-- Calls over a shelf, one after another.
use Rattle.std.proofs.Common.{◌≡◌, ◌≤◌, ◌∙◌, ℕ, List, Result, Ok, Err, IfOk, IfErr, arith, refl, sym, subst}
use Rattle.std.specs.Prelude.{IsErrAnd}
use Rattle.std.proofs.lemmas.Result.{err_from_is_err_and}
use Rattle.beet_store.specs.Files.{Seen}
use Rattle.beet_forms.specs.FaultLines.{fault_line_of}
use Rattle.beet_forms.specs.Faults.{Reading, Answers}
use Rattle.beet_forms.specs.declared.faults.ReadFault.{ReadFault}
use Rattle.beet_forms.specs.declared.faults.ReadFault.TheVariants.{Bad, OutOfMemory as MemoryOut}
use Rattle.beet_errand.specs.Errands.{Answer, Errand, Ends, Step, ◌>>=◌, ◌>>◌, gives, refuses, judged}
use Rattle.beet_errand.specs.Fetches.{ReadsFor, Reads, Tests, CauseOf, Causes, Counts, Finishes, Judges, Refuses, Went}
use Rattle.beet_errand.specs.declared.answer.Refusal.{Refusal}
use Rattle.beet_errand.specs.declared.answer.Refusal.TheVariants.{BadFile}
use Rattle.beet_errand.specs.declared.answer.Stop.{Stop}
use Rattle.beet_errand.specs.declared.answer.Stop.TheVariants.{Refused, OutOfMemory}
use Rattle.beet_errand.proofs.Steps.{went_none, went_on, stops_before, stops_after}

-- a cause is one where the count before it is the same
causes_on : (before middle now : ℕ) (stop : Stop) → middle ≡ before → Causes middle now stop → Causes before now stop
causes_on before middle now stop same h = rw same at h

module _ {A B T U : Type 0} {shows : T → A → Type 0} {last : U → B → Type 0} {old middle now : Seen} {step : Step A}
    {rest : A → Step B} where
  -- a call gives its value, and the others go on with it
  pub bound : {value : T} {result : Result U Stop} → ReadsFor shows old middle step (Ok value) →
      ((a : A) → shows value a → ReadsFor last middle now (rest a) result) → ReadsFor last old now (step >>= rest) result
  bound {value = value} {result = Ok u} r f =
      let (a, is, went) = r.gives in
      let s = f a is in
      let (b, shown, on) = s.gives in
      record {
        gives = (b, shown, λ next. went_on old.told middle.told now.told _ _ _ (went (λ v. rest v next)) (on next));
        cause = s.cause ∙ r.cause;
        later = omega (arith, r.later, s.later);
      }
  bound {value = value} {result = Err stop} r f =
      let (a, is, went) = r.gives in
      let s = f a is in
      record {
        gives = stops_after old.told middle.told now.told step rest a stop went s.gives;
        cause = causes_on old.faults middle.faults now.faults stop r.cause s.cause;
        later = omega (arith, r.later, s.later);
      }

module _ {A B T U : Type 0} {shows : T → A → Type 0} {last : U → B → Type 0} {old now : Seen} {step : Step A} {rest : A → Step B} where
  -- a call stops, and the others are not made
  pub stopped : {stop : Stop} → ReadsFor shows old now step (Err stop) → ReadsFor last old now (step >>= rest) (Err stop)
  stopped {stop = stop} r = record { gives = stops_before old.told now.told step rest stop r.gives; cause = r.cause; later = r.later }

-- the same as `bound`, where the next step takes the value as `view` shows it
pub bind : {A B T U : Type 0} {view : T → A} {last : U → B → Type 0} {old middle now : Seen} {step : Step A}
    {rest : A → Step B} {value : T} {result : Result U Stop} →
    Reads view old middle step (Ok value) → ReadsFor last middle now (rest (view value)) result →
    ReadsFor last old now (step >>= rest) result
bind {last = last} {middle = middle} {now = now} {rest = rest} {result = result} r s =
    bound r (λ a is. subst (λ x. ReadsFor last middle now (rest x) result) (sym is) s)

module _ {B U : Type 0} {last : U → B → Type 0} where
  -- a test passes, and a step follows
  pub passed : {test : Errand → Errand} {old now : Seen} {step : Step B} {result : Result U Stop} → Tests test (Ok tt) →
      ReadsFor last old now step result → ReadsFor last old now (test >> step) result
  passed {test = test} {step = step} {result = Ok u} t r =
      let (b, shown, went) = r.gives in
      record { gives = (b, shown, λ next. rw (t.passes (step next)) (went next)); cause = r.cause; later = r.later }
  passed {test = test} {step = step} {result = Err (Refused refusal line)} t r =
      record { gives = λ next. rw (t.passes (step next)) (r.gives next); cause = r.cause; later = r.later }
  passed {test = test} {step = step} {result = Err OutOfMemory} t r =
      record { gives = λ next. rw (t.passes (step next)) (r.gives next); cause = r.cause; later = r.later }

  -- a test stops
  pub tested : {test : Errand → Errand} {seen : Seen} {step : Step B} {stop : Stop} → Tests test (Err stop) →
      ReadsFor last seen seen (test >> step) (Err stop)
  tested {test = test} {seen = seen} {step = step} {stop = Refused refusal line} t = record {
    gives = λ next. rw (t.passes (step next)) (went_none seen.told (refuses refusal line.items));
    cause = t.cause seen.faults;
    later = omega arith;
  }
  tested {test = test} {seen = seen} {step = step} {stop = OutOfMemory} t =
      record {
        gives = λ next. (test (step next), went_none seen.told (test (step next)));
        cause = refl;
        later = omega arith;
      }

  -- memory runs out before a step
  pub no_memory : {seen : Seen} {step : Step B} → ReadsFor last seen seen step (Err OutOfMemory)
  no_memory {seen = seen} {step = step} =
      record { gives = λ next. (step next, went_none seen.told (step next)); cause = refl; later = omega arith }

  -- the value, at the end
  pub given : {seen : Seen} {value : U} {b : B} → last value b → ReadsFor last seen seen (gives b) (Ok value)
  given {seen = seen} {b = b} is =
      record { gives = (b, is, λ next. went_none seen.told (next b)); cause = refl; later = omega arith }

  -- what the exit of a `?` returns
  pub exits : {old now : Seen} {step : Step B} {stop : Stop} {result : Result U Stop} →
      IsErrAnd result (λ e. e ≡ stop) → ReadsFor last old now step (Err stop) → ReadsFor last old now step result
  exits {result = result} e r = let p = err_from_is_err_and result e in rw (p.1, p.2) r

-- where what a call gave is equal to another result, that result reads the same
pub handed : {A T : Type 0} {shows : T → A → Type 0} {old now : Seen} {step : Step A} {given result : Result T Stop} → given ≡ result →
    ReadsFor shows old now step given → ReadsFor shows old now step result
handed {shows = shows} {old = old} {now = now} {step = step} e r = subst (ReadsFor shows old now step) e r

-- a refusal has its cause
pub refused_cause : (refusal : Refusal) (text : List ℕ) (before now : ℕ) (stop : Stop) → Refuses refusal text stop →
    now ≡ before → CauseOf ⊥ (λ own. ⊥) before now refusal → Causes before now stop
refused_cause refusal text before now (Refused r line) is same cause = rw is.0 cause
refused_cause refusal text before now OutOfMemory is same cause = same

-- a test stops by the line that was made for it
pub test_refused : {test : Errand → Errand} (refusal : Refusal) (text : List ℕ) (stop : Stop) →
    ((next : Errand) → test next ≡ refuses refusal text) → Refuses refusal text stop →
    ((count : ℕ) → CauseOf ⊥ (λ own. ⊥) count count refusal) → Tests test (Err stop)
test_refused refusal text (Refused r line) fails is cause = record {
  passes = λ next. rw (is.0, is.1) (fails next);
  cause = λ count. rw is.0 (cause count);
}
test_refused refusal text OutOfMemory fails is cause = record { passes = tt; cause = λ count. refl }

-- a file that was fetched is judged
pub judges : {A T : Type 0} {view : T → A} {seen : Seen} (name : List ℕ) (reading : Reading A)
    (read : Result T ReadFault) (result : Result T Stop) →
    Answers view reading read → Judges name read result → Reads view seen seen (judged name reading) result
judges {view = view} {seen = seen} name reading (Ok value) (Ok v) a j =
    let same : value ≡ v = cc in
    record {
      gives = (view v, refl, λ next. rw (a, same) (went_none seen.told (next (view v))));
      cause = refl;
      later = omega arith;
    }
judges name reading (Ok value) (Err stop) a j = absurd j
judges name reading (Err (Bad place reason)) (Ok v) a j = absurd cc
judges name reading (Err MemoryOut) (Ok v) a j = absurd cc
judges {seen = seen} name reading (Err (Bad place reason)) (Err (Refused refusal line)) a j = record {
  gives = λ next. rw (a, j.0, j.1) (went_none seen.told (refuses BadFile (fault_line_of name place reason)));
  cause = rw j.0 refl;
  later = omega arith;
}
judges name reading (Err (Bad place reason)) (Err OutOfMemory) a j = no_memory
judges name reading (Err MemoryOut) (Err (Refused refusal line)) a j = absurd cc
judges name reading (Err MemoryOut) (Err OutOfMemory) a j = no_memory

-- a value that is computed, unless memory runs out
pub computed : {B U : Type 0} {view : U → B} {seen : Seen} {b : B} (result : Result U Stop) →
    IfOk result (λ value. view value ≡ b) → IfErr result (λ stop. stop ≡ OutOfMemory) → Reads view seen seen (gives b) result
computed (Ok value) is memory = given (sym is)
computed (Err stop) is memory = rw memory no_memory

-- what was read is answered, unless memory runs out
pub answered : {A B T U : Type 0} {shows : T → A → Type 0} {view : U → B} {answer : A → B} {old now : Seen} {step : Step A}
    {value : T} (result : Result U Stop) → ReadsFor shows old now step (Ok value) → IfErr result (λ stop. stop ≡ OutOfMemory) →
    ((a : A) → shows value a → IfOk result (λ made. view made ≡ answer a)) →
    Reads view old now (step >>= (λ a. gives (answer a))) result
answered result r memory made = bound r (λ a is. computed result (made a is) memory)

-- a whole job does what its errand says and no more: it has gone to its end, or it stops with a cause
pub record Does (old now : Seen) (errand : Errand) (result : Result Answer Stop) : Type 0 where
  pub finishes : Finishes old.told now.told errand result
  pub cause : Counts old.faults now.faults result
  pub later : old.faults ≤ now.faults

-- a job whose answer is given
pub does : {old now : Seen} {job : Step Answer} (result : Result Answer Stop) →
    Reads (λ answer. answer) old now job result → Does old now (job Ends) result
does (Ok answer) r =
    let (a, is, went) = r.gives in record { finishes = rw is at (went Ends); cause = r.cause; later = r.later }
does (Err (Refused refusal line)) r = record { finishes = r.gives Ends; cause = r.cause; later = r.later }
does (Err OutOfMemory) r = record { finishes = r.gives Ends; cause = r.cause; later = r.later }

-- two tests, one after the other
pub both : {first second : Errand → Errand} (result : Result (Unit {0}) Stop) → Tests first (Ok tt) →
    Tests second result → Tests (λ next. first (second next)) result
both {second = second} (Ok tt) t u = record { passes = λ next. t.passes (second next) ∙ u.passes next; cause = u.cause }
both {second = second} (Err (Refused refusal line)) t u =
    record { passes = λ next. t.passes (second next) ∙ u.passes next; cause = u.cause }
both (Err OutOfMemory) t u = record { passes = tt; cause = λ count. refl }

pub first_fails : {first second : Errand → Errand} (stop : Stop) → Tests first (Err stop) → Tests (λ next. first (second next)) (Err stop)
first_fails {second = second} (Refused refusal line) t = record { passes = λ next. t.passes (second next); cause = t.cause }
first_fails OutOfMemory t = record { passes = tt; cause = λ count. refl }

-- what the exit of a `?` returns
pub test_exits : {test : Errand → Errand} {stop : Stop} {result : Result (Unit {0}) Stop} →
    IsErrAnd result (λ e. e ≡ stop) → Tests test (Err stop) → Tests test result
test_exits {result = result} e t = let p = err_from_is_err_and result e in rw (p.1, p.2) t

-- what was read so far of a step leaves it with another, which goes on with the same value
pub record Reached {A : Type 0} (old now : Seen) (step rest : Step A) : Type 0 where
  pub went : (next : A → Errand) → Went old.told now.told (step next) (rest next)
  pub kept : now.faults ≡ old.faults

-- a loop: nothing is read yet
pub reached_none : {A : Type 0} {seen : Seen} {step : Step A} → Reached seen seen step step
reached_none {seen = seen} {step = step} = record { went = λ next. went_none seen.told (step next); kept = refl }

module _ {A T : Type 0} {shows : T → A → Type 0} {old middle now : Seen} where
  -- one step more is read
  pub reached_more : {B : Type 0} {step : Step B} {part : Step A} (rest : A → Step B) {value : T} →
      Reached old middle step (part >>= rest) →
      (r : ReadsFor shows middle now part (Ok value)) → Reached old now step (rest r.gives.0)
  reached_more {step = step} rest h r = record {
    went = λ next. went_on old.told middle.told now.told _ _ _ (h.went next) (r.gives.2 (λ a. rest a next));
    kept = r.cause ∙ h.kept;
  }

  -- what is left is read
  pub reached_last : {step rest : Step A} {result : Result T Stop} → Reached old middle step rest →
      ReadsFor shows middle now rest result → ReadsFor shows old now step result
  reached_last {result = Ok value} h r =
      let (a, is, went) = r.gives in
      record {
        gives = (a, is, λ next. went_on old.told middle.told now.told _ _ _ (h.went next) (went next));
        cause = r.cause ∙ h.kept;
        later = omega (arith, r.later, h.kept);
      }
  reached_last {result = Err (Refused refusal line)} h r = record {
    gives = λ next. went_on old.told middle.told now.told _ _ _ (h.went next) (r.gives next);
    cause = causes_on old.faults middle.faults now.faults (Refused refusal line) h.kept r.cause;
    later = omega (arith, r.later, h.kept);
  }
  reached_last {result = Err OutOfMemory} h r = record {
    gives = λ next.
        let (last, went) = r.gives next in (last, went_on old.told middle.told now.told _ _ _ (h.went next) went);
    cause = r.cause ∙ h.kept;
    later = omega (arith, r.later, h.kept);
  }

-- the value of a call, shown by another that is made of it
pub shown : {A T U : Type 0} {view : T → A} {last : U → A → Type 0} {old now : Seen} {step : Step A} {value : T} {made : U} →
    Reads view old now step (Ok value) → last made (view value) → ReadsFor last old now step (Ok made)
shown {last = last} {made = made} r is =
    record { gives = (r.gives.0, subst (last made) (sym r.gives.1) is, r.gives.2); cause = r.cause; later = r.later }

-- memory runs out after a call that gave its value
pub forgotten : {A T U : Type 0} {shows : T → A → Type 0} {last : U → A → Type 0} {old now : Seen} {step : Step A} {value : T} →
    ReadsFor shows old now step (Ok value) → ReadsFor last old now step (Err OutOfMemory)
forgotten r = record { gives = λ next. (next r.gives.0, r.gives.2 next); cause = r.cause; later = r.later }
