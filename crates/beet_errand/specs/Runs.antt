-- What a run of the program does.
use Rattle.std.specs.Prelude.{◌≡◌, ◌≤◌, ◌⊎◌, ℕ, List, [], ◌∷◌, Result, Ok, Err}
use Rattle.beet_store.specs.Files.{File, Told}
use Rattle.beet_store.specs.Desks.{DeskCall, DeskSeen, DeskTold, Done, GivesCall, HasPutCause, Put, Say}
use Rattle.beet_store.specs.declared.desk.PutFault.{PutFault}
use Rattle.beet_store.specs.declared.desk.PutFault.TheVariants.{Failed, OutOfMemory as NoMemoryToPut}
use Rattle.beet_errand.specs.Errands.{Answer, Errand, Ends, Wants, text_answer}
use Rattle.beet_errand.specs.Fetches.{Went}
use Rattle.beet_errand.specs.Statuses.{code_of}
use Rattle.beet_errand.specs.declared.answer.Status.{Status}
use Rattle.beet_errand.specs.declared.answer.Status.TheVariants.{WriteFault, OutOfMemory, Refused as IsRefused}
use Rattle.beet_errand.specs.declared.answer.Stop.{Stop}
use Rattle.beet_errand.specs.declared.answer.Stop.TheVariants.{Refused, OutOfMemory as NoMemory}

-- a desk has got this text by one say, and no other call
abbrev pub Said : DeskTold → DeskTold → List ℕ → Type 0
Said old now text = GivesCall old now (Say text (Ok tt))

-- each of these files is given by one put, in order, and then the text by one say; the first call that is refused is
-- the last. What a call does is a relation of what was before it and what is after it
abbrev pub CallsAll : {T : Type 0} → (T → T → DeskCall → Type 0) → T → T → List File → List ℕ → Done → Type 0
CallsAll Call old now [] text done = Call old now (Say text done)
CallsAll {T = T} Call old now (file ∷ files) text done =
    ((middle : T) × Call old middle (Put file.0 file.1 (Ok tt)) × CallsAll Call middle now files text done)
    ⊎ ((fault : PutFault) × (done ≡ Err fault) × Call old now (Put file.0 file.1 (Err fault)))

-- the desk has recorded these calls and no other
abbrev pub GivesAll : DeskTold → DeskTold → List File → List ℕ → Done → Type 0
GivesAll = CallsAll GivesCall

-- files and a text are given to a desk: why the last call answered as it did, and what the calls left
pub record Gives (old now : DeskSeen) (files : List File) (text : List ℕ) (done : Done) : Type 0 where
  pub cause : HasPutCause old.faults now.faults done
  pub calls : GivesAll old.told now.told files text done

-- the status that was due, or that of the call that was refused
abbrev pub status_after : Status → Done → Status
status_after due (Ok done) = due
status_after due (Err Failed) = WriteFault
status_after due (Err NoMemoryToPut) = OutOfMemory

-- how an answer goes out: its files and its text are given to the desk
pub record GoesOut (answer : Answer) (old now : DeskTold) (status : ℕ) : Type 0 where
  pub done : Done
  pub calls : GivesAll old now answer.files answer.text done
  pub code : status ≡ code_of (status_after answer.status done)

-- memory ran out before the desk was called
pub record RunsOut (old now : DeskTold) (status : ℕ) : Type 0 where
  pub code : status ≡ code_of OutOfMemory
  pub same : now ≡ old

-- how a run ends on what is left of its errand: its answer goes out, or memory ran out before
abbrev pub EndsBy : Errand → DeskTold → DeskTold → ℕ → Type 0
EndsBy (Ends answer) old now status = GoesOut answer old now status ⊎ RunsOut old now status
EndsBy (Wants name limit next) old now status = RunsOut old now status

-- the run fetches the files of its errand in order, each once, and stops where the errand ends: there its answer goes
-- out
pub record Runs (errand : Errand) (told told_now : Told) (desk desk_now : DeskTold) (status : ℕ) : Type 0 where
  pub rest : Errand
  pub went : Went told told_now errand rest
  pub ends : EndsBy rest desk desk_now status

-- how an answer goes out, with the cause of a call that was refused
pub record AnswersBy (answer : Answer) (old now : DeskSeen) (end : Status) : Type 0 where
  pub done : Done
  pub gives : Gives old now answer.files answer.text done
  pub status : end ≡ status_after answer.status done

-- how the end of a job goes out
abbrev pub EndGoesOut : DeskSeen → DeskSeen → Result Answer Stop → Status → Type 0
EndGoesOut old now (Ok answer) end = AnswersBy answer old now end
EndGoesOut old now (Err (Refused refusal line)) end = AnswersBy (text_answer (IsRefused refusal) line.items) old now end
EndGoesOut old now (Err NoMemory) end = (end ≡ OutOfMemory) × (now ≡ old)

-- the exit statuses
abbrev pub IsStatus : ℕ → Type 0
IsStatus status = status ≤ 9
