-- How far a list of fetches brings an errand.
use Rattle.std.specs.Prelude.{◌≡◌, ◌≤◌, ◌⊎◌, ℕ, List, [], ◌∷◌, ◌++◌, Option, Result, Ok, Err, IfSome}
use Rattle.beet_store.specs.Causes.{Rose}
use Rattle.beet_store.specs.Files.{Answers, Fetch, File, FitsLimit, Seen, Told, bytes_of, with_fetches}
use Rattle.beet_errand.specs.Errands.{Answer, Errand, Step, Ends, Wants, after_answer, refuses}
use Rattle.beet_errand.specs.declared.answer.OwnRefusal.{OwnRefusal}
use Rattle.beet_errand.specs.declared.answer.Refusal.{Refusal}
use Rattle.beet_errand.specs.declared.answer.Refusal.TheVariants.{Usage, ReadFault as Unread, BadFile, TooFewWords, Own}
use Rattle.beet_errand.specs.declared.answer.Status.{Status}
use Rattle.beet_errand.specs.declared.answer.Status.TheVariants.{Done, MasksSpent}
use Rattle.beet_forms.specs.FaultLines.{fault_line_of}
use Rattle.beet_forms.specs.declared.faults.ReadFault.{ReadFault}
use Rattle.beet_forms.specs.declared.faults.ReadFault.TheVariants.{Bad, OutOfMemory as MemoryOut}
use Rattle.beet_errand.specs.declared.answer.Stop.{Stop}
use Rattle.beet_errand.specs.declared.answer.Stop.TheVariants.{Refused, OutOfMemory}

-- exactly these fetches, in order, and what they answered lead from the errand to what is left of it
abbrev pub Leads : List Fetch → Errand → Errand → Type 0
Leads [] errand rest = errand ≡ rest
Leads (fetch ∷ fetches) (Ends answer) rest = ⊥
Leads (fetch ∷ fetches) (Wants name limit next) rest =
    (fetch.name ≡ name) × (fetch.limit ≡ limit) × Leads fetches (after_answer name next fetch.answer) rest

-- what a fetch answered is within its limit; and it is what these files hold, if they are known
pub record IsAnswered (files : Option (List File)) (fetch : Fetch) : Type 0 where
  pub limited : FitsLimit fetch.limit fetch.answer
  pub held : IfSome files (λ files. Answers (bytes_of files fetch.name) fetch.answer)

-- each of these fetches is answered so
abbrev pub AreAnswered : Option (List File) → List Fetch → Type 0
AreAnswered files [] = Unit {0}
AreAnswered files (fetch ∷ fetches) = IsAnswered files fetch × AreAnswered files fetches

-- the shelf has recorded the fetches that lead from the errand to what is left of it, and is else as it was
pub record Went (old now : Told) (errand rest : Errand) : Type 0 where
  pub fetches : List Fetch
  pub recorded : now ≡ with_fetches old (old.fetches ++ fetches)
  pub answered : AreAnswered old.files fetches
  pub leads : Leads fetches errand rest

-- a step reads a value: the fetches lead through it, whatever comes next
abbrev pub IsRead : {A : Type 0} → Told → Told → Step A → A → Type 0
IsRead {A = A} old now step value = (next : A → Errand) → Went old now (step next) (next value)

-- a step of an errand ends it with the line that was made for it, or memory ran out on the way
abbrev pub Stops : {A : Type 0} → Told → Told → Step A → Stop → Type 0
Stops {A = A} old now step (Refused refusal line) =
    (next : A → Errand) → Went old now (step next) (refuses refusal line.items)
Stops {A = A} old now step OutOfMemory = (next : A → Errand) → (rest : Errand) × Went old now (step next) rest

-- a test that fetches nothing: the errand goes on, or the test ends it with the line that was made for it, unless
-- memory ran out
abbrev pub Passes : (Errand → Errand) → Result (Unit {0}) Stop → Type 0
Passes test (Ok done) = (next : Errand) → test next ≡ next
Passes test (Err (Refused refusal line)) = (next : Errand) → test next ≡ refuses refusal line.items
Passes test (Err OutOfMemory) = Unit {0}

-- the job is refused by this line, unless memory ran out
abbrev pub Refuses : Refusal → List ℕ → Stop → Type 0
Refuses refusal text (Refused r line) = (r ≡ refusal) × (line.items ≡ text)
Refuses refusal text OutOfMemory = Unit {0}

-- the value of a file that was read, or the line that names its first fault
abbrev pub Judges : {T : Type 0} → List ℕ → Result T ReadFault → Result T Stop → Type 0
Judges name read (Ok value) = read ≡ Ok value
Judges name (Ok v) (Err stop) = ⊥
Judges name (Err (Bad place reason)) (Err stop) = Refuses BadFile (fault_line_of name place reason) stop
Judges name (Err MemoryOut) (Err stop) = stop ≡ OutOfMemory

-- the cause of each refusal, with the count of faults before and after: words name no job if `unnamed` holds, a file
-- cannot be fetched exactly if the count rose, and `own` tells which refusals of its own a job has
abbrev pub CauseOf : Type 0 → (OwnRefusal → Type 0) → ℕ → ℕ → Refusal → Type 0
CauseOf unnamed own before now Usage = unnamed × (now ≡ before)
CauseOf unnamed own before now Unread = Rose before now
CauseOf unnamed own before now BadFile = now ≡ before
CauseOf unnamed own before now TooFewWords = now ≡ before
CauseOf unnamed own before now (Own refusal) = own refusal × (now ≡ before)

-- a step stops with a cause: it is refused by what it reads alone
abbrev pub Causes : ℕ → ℕ → Stop → Type 0
Causes before now (Refused refusal line) = CauseOf ⊥ (λ own. ⊥) before now refusal
Causes before now OutOfMemory = now ≡ before

-- the count of faults after a step: as it was if it gives a value, and else as its cause says
abbrev pub Counts : {T : Type 0} → ℕ → ℕ → Result T Stop → Type 0
Counts before now (Ok value) = now ≡ before
Counts before now (Err stop) = Causes before now stop

-- what a step of an errand gives: a value, for one that the next step takes; or it stops
abbrev pub GivesFor : {A T : Type 0} → (T → A → Type 0) → Told → Told → Step A → Result T Stop → Type 0
GivesFor {A = A} shows old now step (Ok value) = (a : A) × shows value a × IsRead old now step a
GivesFor shows old now step (Err stop) = Stops old now step stop

-- a call over a shelf does what the step says and no more, in order: it gives a value, for one that the next step
-- takes, or it stops
pub record ReadsFor {A T : Type 0} (shows : T → A → Type 0) (old now : Seen) (step : Step A)
    (result : Result T Stop) : Type 0 where
  pub gives : GivesFor shows old.told now.told step result
  pub cause : Counts old.faults now.faults result
  pub later : old.faults ≤ now.faults

-- the same, if the next step takes the value as `view` shows it
abbrev pub Reads : {A T : Type 0} → (T → A) → Seen → Seen → Step A → Result T Stop → Type 0
Reads view old now step result = ReadsFor (λ value a. a ≡ view value) old now step result

-- a test passes, or it stops with a cause; it fetches nothing
pub record Tests (test : Errand → Errand) (result : Result (Unit {0}) Stop) : Type 0 where
  pub passes : Passes test result
  pub cause : (count : ℕ) → Counts count count result

-- how a job ends that is not refused
abbrev pub IsDone : Status → Type 0
IsDone status = (status ≡ Done) ⊎ (status ≡ MasksSpent)

-- a job has gone from its errand to its end, unless memory ran out on the way
abbrev pub Finishes : Told → Told → Errand → Result Answer Stop → Type 0
Finishes old now errand (Ok answer) = Went old now errand (Ends answer)
Finishes old now errand (Err (Refused refusal line)) = Went old now errand (refuses refusal line.items)
Finishes old now errand (Err OutOfMemory) = (rest : Errand) × Went old now errand rest
