-- How a job ends that compares two worlds, once both are read or cannot be read.
use Rattle.std.proofs.Common.{◌≡◌, ℕ, List, Option, Some, None, Result, Ok, Err, IfErr, IfOk, arith, refl}
use Rattle.beet_store.specs.Files.{Seen, Told}
use Rattle.beet_errand.specs.Errands.{Answer, Step, ◌>>◌, gives, refuses}
use Rattle.beet_errand.specs.Fetches.{IsDone, Reads, Refuses, Stops}
use Rattle.beet_errand.specs.Tasks.{DoesTask, ShowsRead, Task, ToShow}
use Rattle.beet_errand.specs.declared.answer.OwnRefusal.TheVariants.{OfWorlds}
use Rattle.beet_errand.specs.declared.answer.Refusal.TheVariants.{Own}
use Rattle.beet_errand.specs.declared.answer.Stop.{Stop}
use Rattle.beet_errand.specs.declared.answer.Stop.TheVariants.{Refused, OutOfMemory}
use Rattle.beet_errand.proofs.Frame.{stopped}
use Rattle.beet_errand.proofs.Steps.{went_none, stops_after}
use Rattle.beet_errand.proofs.Tasks.{read_value, reading_stops, shown_ends, unread_stops}
use Rattle.beet_differences.specs.Comparing.{AnswersBoth, TellsApart, compared, unless_apart}

-- the job compares both worlds, and its answer shows this of them
abbrev pub comparing_task : {A F : Type 0} → (F → List ℕ) → (A → Option F) → Step A → (A → Answer → Type 0) → Task
comparing_task line difference step shows = ToShow OfWorlds (compared line difference step) (ShowsRead step shows)

module _ {F : Type 0} (line : F → List ℕ) where
  -- worlds that are told apart stop the errand
  apart-stops : {A : Type 0} (told : Told) (difference : Option F) (both : A) (stop : Stop) → TellsApart line difference stop →
      Stops {A = A} told told (unless_apart line difference >> gives both) stop
  apart-stops told None both (Refused refusal text) h = absurd (cc h)
  apart-stops told None both OutOfMemory h = λ next. (next both, went_none told (next both))
  apart-stops told (Some difference) both (Refused refusal text) h = λ next.
      rw (h.0, h.1) (went_none told (refuses (Own OfWorlds) (line difference)))
  apart-stops told (Some difference) both OutOfMemory h = λ next.
      (refuses (Own OfWorlds) (line difference), went_none told (refuses (Own OfWorlds) (line difference)))

  -- memory may run out before they are
  pub apart-memory : (difference : Option F) → TellsApart line difference OutOfMemory
  apart-memory None = refl
  apart-memory (Some difference) = tt

  -- a refusal by the line of the difference
  pub apart-told : (difference : Option F) (fault : F) (stop : Stop) → difference ≡ Some fault →
      Refuses (Own OfWorlds) (line fault) stop → TellsApart line difference stop
  apart-told difference fault stop e t = rw e t

  -- the answer for two worlds of which there is one, or want of memory
  pub both-answers : (shows : Answer → Type 0) (difference : Option F) (result : Result Answer Stop) →
      IfErr result (λ stop. stop ≡ OutOfMemory) → IfOk result shows → AnswersBoth line difference shows result
  both-answers shows difference (Ok answer) memory made = made
  both-answers shows difference (Err stop) memory made = rw memory (apart-memory difference)

  -- worlds that are read are compared
  abbrev comparing : {A : Type 0} → (A → Option F) → A → Step A
  comparing difference both = unless_apart line (difference both) >> gives both

  module _ {A : Type 0} (difference : A → Option F) (step : Step A) (shows : A → Answer → Type 0) {old now : Seen} where
    -- the worlds could not be read
    pub unread-does : {stop : Stop} → Reads {T = A} (λ both. both) old now step (Err stop) →
        DoesTask (comparing_task line difference step shows) old now (Err stop)
    unread-does r = unread_stops {T = A} {view = λ both. both} (stopped {rest = comparing difference} r)

    refused-does : (told : Option F) (stop : Stop) → TellsApart line told stop →
        Stops old.told now.told (compared line difference step) stop →
        now.faults ≡ old.faults → DoesTask (comparing_task line difference step shows) old now (Err stop)
    refused-does None (Refused refusal text) t stops same = absurd (cc t)
    refused-does (Some d) (Refused refusal text) t stops same =
        reading_stops (Refused refusal text) stops (rw t.0 (refl, same)) (omega (arith, same))
    refused-does told OutOfMemory t stops same = reading_stops OutOfMemory stops same (omega (arith, same))

    -- both worlds are read, and answered
    pub compared-does : (both : A) (result : Result Answer Stop) → Reads {T = A} (λ both. both) old now step (Ok both) →
        IfOk result (λ answer. IsDone answer.status) → AnswersBoth line (difference both) (shows both) result →
        DoesTask (comparing_task line difference step shows) old now result
    compared-does both (Ok answer) r done h =
        shown_ends answer done (record { value = both; read = read_value r; shown = h }) r.cause
    compared-does both (Err stop) r done h =
        refused-does (difference both) stop h
        (stops_after old.told now.told now.told step (comparing difference) both stop (read_value r)
        (apart-stops now.told (difference both) both stop h)) r.cause
