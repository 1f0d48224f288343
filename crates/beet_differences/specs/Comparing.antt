-- How a job ends that compares two worlds.
use Rattle.std.specs.Prelude.{◌≡◌, ℕ, List, ◌++◌, codes, decimal, Option, Some, None, Result, Ok, Err}
use Rattle.beet_errand.specs.Errands.{Answer, Errand, Step, gives, refuses, ◌>>=◌, ◌>>◌}
use Rattle.beet_errand.specs.Fetches.{Refuses}
use Rattle.beet_errand.specs.Texts.{line_of}
use Rattle.beet_errand.specs.declared.answer.OwnRefusal.TheVariants.{OfWorlds}
use Rattle.beet_errand.specs.declared.answer.Refusal.TheVariants.{Own}
use Rattle.beet_errand.specs.declared.answer.Stop.{Stop}
use Rattle.beet_errand.specs.declared.answer.Stop.TheVariants.{OutOfMemory}

-- the line of a bidder that differs, counted from 1: what is refused, and the reason
abbrev pub bidder_text : List ℕ → List ℕ → ℕ → List ℕ
bidder_text refused reason bidder = line_of (refused ++ codes " " ++ reason ++ codes " " ++ decimal bidder)

-- two worlds go on together if there is no difference between them; else the job ends with its line
abbrev pub unless_apart : {F : Type 0} → (F → List ℕ) → Option F → Errand → Errand
unless_apart line None next = next
unless_apart line (Some difference) next = refuses (Own OfWorlds) (line difference)

-- both worlds are read, and they are refused by the line of the difference between them, if there is one
abbrev pub compared : {A F : Type 0} → (F → List ℕ) → (A → Option F) → Step A → Step A
compared line difference step = do
  both ← step
  unless_apart line (difference both)
  gives both

-- two worlds are refused by the line of the difference between them, unless memory ran out
abbrev pub TellsApart : {F : Type 0} → (F → List ℕ) → Option F → Stop → Type 0
TellsApart line None stop = stop ≡ OutOfMemory
TellsApart line (Some difference) stop = Refuses (Own OfWorlds) (line difference) stop

-- the answer for two worlds shows this, or refuses them
abbrev pub AnswersBoth : {F : Type 0} → (F → List ℕ) → Option F → (Answer → Type 0) → Result Answer Stop → Type 0
AnswersBoth line difference shows (Ok answer) = shows answer
AnswersBoth line difference shows (Err stop) = TellsApart line difference stop
