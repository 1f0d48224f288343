-- What a run leaves at a desk, by its exit status.
use Rattle.std.specs.Prelude.{◌≡◌, ◌⊎◌, ℕ, List, [], ◌∷◌, ◌++◌, map, codes, Option, Some, None, Ok, Err, IsSomeAnd}
use Rattle.beet_field.specs.declared.point.Point.TheVariants.{One, Two, Three}
use Rattle.beet_store.specs.Files.{File}
use Rattle.beet_store.specs.Desks.{DeskTold, Given}
use Rattle.beet_store.specs.declared.desk.PutFault.TheVariants.{Failed, OutOfMemory}
use Rattle.beet_errand.specs.Statuses.{IsDoneCode, code_of}
use Rattle.beet_errand.specs.declared.answer.Refusal.{Refusal}
use Rattle.beet_errand.specs.declared.answer.Status.TheVariants.{Refused}
use Rattle.beet_errand.specs.Errands.{file_for}
use Rattle.beet_errand.specs.Runs.{GivesAll, Said}
use Rattle.beet_app_laws.specs.Calls.{Call}
use Rattle.beet_app_laws.specs.Refusals.{IsLineOf}

-- nothing was said, as far as a desk tells what it was given
abbrev pub SaysNothing : Option Given → Option Given → Type 0
SaysNothing None now = now ≡ None
SaysNothing (Some given) now = IsSomeAnd now (λ later. later.said ≡ given.said)

-- the line of a refusal with this exit status was said, and no other call was made, so that no file was put
pub record SaysLine (status : ℕ) (old now : DeskTold) : Type 0 where
  pub refusal : Refusal
  pub code : status ≡ code_of (Refused refusal)
  pub line : List ℕ
  pub is_line : IsLineOf refusal line
  pub said : Said old now line

-- the last word of a command
abbrev pub last_word : List (List ℕ) → List ℕ
last_word [] = []
last_word (word ∷ []) = word
last_word (word ∷ other ∷ words) = last_word (other ∷ words)

-- the names of the files that a command puts, if it puts any, by its last word: one for each server, or those of two
-- worlds
abbrev pub AreOutputs : List ℕ → List (List ℕ) → Type 0
AreOutputs out names =
    (names ≡ [])
    ⊎ (names ≡ file_for out One ∷ file_for out Two ∷ file_for out Three ∷ [])
    ⊎ (names ≡ (out ++ codes ".first") ∷ (out ++ codes ".second") ∷ (out ++ codes ".words") ∷ [])

-- memory ran out and nothing was said: no call was made, or files were put, one after another, up to the call that
-- found no memory
pub record EndsShort (out : List ℕ) (old now : DeskTold) : Type 0 where
  pub silent : SaysNothing old.given now.given
  pub calls : (now ≡ old) ⊎ ((files : List File) × (text : List ℕ) × AreOutputs out (map (λ file. file.0) files)
      × GivesAll old now files text (Err OutOfMemory))

-- files were put, one after another, and then a text was said, up to the first call that failed, which was the last
pub record EndsAtFault (out : List ℕ) (old now : DeskTold) : Type 0 where
  pub files : List File
  pub names : AreOutputs out (map (λ file. file.0) files)
  pub text : List ℕ
  pub calls : GivesAll old now files text (Err Failed)

-- files were put, one after another, and then a text was said
pub record GivesWhole (out : List ℕ) (old now : DeskTold) : Type 0 where
  pub files : List File
  pub names : AreOutputs out (map (λ file. file.0) files)
  pub text : List ℕ
  pub calls : GivesAll old now files text (Ok tt)

-- the exit statuses of jobs that are refused
abbrev pub IsRefusal : ℕ → Type 0
IsRefusal status = (refusal : Refusal) × (status ≡ code_of (Refused refusal))

-- what is left by each exit status of a command that ends with this word
pub record LeavesBy (out : List ℕ) (call : Call) : Type 0 where
  pub memory : call.status ≡ 1 → EndsShort out call.desk call.desk_now
  pub refused : IsRefusal call.status → SaysLine call.status call.desk call.desk_now
  pub write : call.status ≡ 4 → EndsAtFault out call.desk call.desk_now
  pub whole : IsDoneCode call.status → GivesWhole out call.desk call.desk_now
