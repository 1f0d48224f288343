-- How the job `pair` ends.
use Rattle.std.specs.Prelude.{◌≡◌, ◌⊎◌, ℕ, List, Result, Ok, Err}
use Rattle.beet_field.specs.declared.point.Point.{Point}
use Rattle.beet_errand.specs.Errands.{Answer, text_answer}
use Rattle.beet_errand.specs.Tasks.{Shows, ShowsRead, Task, ToShow}
use Rattle.beet_errand.specs.declared.answer.OwnRefusal.TheVariants.{OfWorlds}
use Rattle.beet_errand.specs.declared.answer.Refusal.TheVariants.{Own}
use Rattle.beet_errand.specs.declared.answer.Status.TheVariants.{Refused as IsRefused}
use Rattle.beet_errand.specs.declared.answer.Stop.{Stop}
use Rattle.beet_errand.specs.declared.answer.Stop.TheVariants.{Refused, OutOfMemory}
use Rattle.beet_lot_map.specs.LotMaps.{RefusesSession}
use Rattle.beet_lot_map.specs.declared.mapping.SessionFault.{SessionFault}
use Rattle.beet_job_session_pair.specs.Answering.{ShowsTheSame}
use Rattle.beet_job_session_pair.specs.Reading.{Both, both_errand, first_books}
use Rattle.beet_job_session_pair.specs.Refusals.{IsLineOf}

-- a text is the line of the first thing by which the server can tell two sessions apart
pub record TellsApart (s : Point) (both : Both) (text : List ℕ) : Type 0 where
  pub fault : SessionFault
  pub apart : RefusesSession s (first_books both) both.seconds fault
  pub line : IsLineOf fault text

-- an answer shows that two sessions look the same to a server, or refuses them by the line of what tells them apart
abbrev pub TellsOf : Point → List ℕ → Both → Answer → Type 0
TellsOf s out both answer =
    ShowsTheSame s out both answer
    ⊎ ((text : List ℕ) × TellsApart s both text × (answer ≡ text_answer (IsRefused (Own OfWorlds)) text))

-- both sessions are read, and the answer tells of them
abbrev pub ShowsSessions : List ℕ → List ℕ → List ℕ → Point → List ℕ → Shows
ShowsSessions session1 session2 servers s out =
    ShowsRead (both_errand session1 session2 servers) (λ both answer. TellsOf s out both answer)

-- the job reads both sessions, and its answer shows that
abbrev pub pair_task : List ℕ → List ℕ → List ℕ → Point → List ℕ → Task
pair_task session1 session2 servers s out =
    ToShow OfWorlds (both_errand session1 session2 servers) (ShowsSessions session1 session2 servers s out)

-- the answer for two sessions that are read, or their refusal
abbrev pub AnswersSessions : Point → List ℕ → Both → Result Answer Stop → Type 0
AnswersSessions s out both (Ok answer) = ShowsTheSame s out both answer
AnswersSessions s out both (Err (Refused refusal line)) = (refusal ≡ Own OfWorlds) × TellsApart s both line.items
AnswersSessions s out both (Err OutOfMemory) = Unit {0}

-- two sessions are refused by the line of the fault, unless memory ran out
abbrev pub TellsRefusal : SessionFault → Stop → Type 0
TellsRefusal fault (Refused refusal line) = (refusal ≡ Own OfWorlds) × IsLineOf fault line.items
TellsRefusal fault OutOfMemory = Unit {0}
