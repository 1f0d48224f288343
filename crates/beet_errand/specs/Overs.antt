-- The answer of an errand over files, each of which is fetched.
use Rattle.std.specs.Prelude.{◌≡◌, ◌++◌, ℕ, List, length, Option, Some, None, nat_lt, if◌then◌else◌}
use Rattle.beet_store.specs.Files.{Fetch, File, Told, bytes_of}
use Rattle.beet_forms.specs.FaultLines.{fault_line_of}
use Rattle.beet_errand.specs.Errands.{Answer, Errand, Ends, Wants, Step, text_answer, too_long}
use Rattle.beet_errand.specs.Fetches.{AreAnswered}
use Rattle.beet_errand.specs.Texts.{read_fault_text}
use Rattle.beet_errand.specs.declared.answer.Refusal.TheVariants.{ReadFault, BadFile}
use Rattle.beet_errand.specs.declared.answer.Status.TheVariants.{Refused}

-- the answer after a file was wanted: that of what goes on with its bytes, if it is held and no longer than its limit
abbrev pub answer_with : List ℕ → ℕ → (List ℕ → Answer) → Option (List ℕ) → Answer
answer_with name limit next None = text_answer (Refused ReadFault) (read_fault_text name)
answer_with name limit next (Some bytes) =
    if nat_lt limit (length bytes)
    then text_answer (Refused BadFile) (fault_line_of name too_long.place too_long.reason)
    else next bytes

-- the answer of an errand over these files
abbrev pub answer_over : List File → Errand → Answer
answer_over files (Ends answer) = answer
answer_over files (Wants name limit next) =
    answer_with name limit (λ bytes. answer_over files (next bytes)) (bytes_of files name)

-- over these files a step gives this value
abbrev pub ReadsTo : {A : Type 0} → List File → Step A → A → Type 0
ReadsTo {A = A} files step value = (next : A → Errand) → answer_over files (step next) ≡ answer_over files (next value)

-- each fetch that was recorded since is answered from these files
pub record FromFiles (files : List File) (old now : Told) : Type 0 where
  pub fetches : List Fetch
  pub recorded : now.fetches ≡ old.fetches ++ fetches
  pub answered : AreAnswered (Some files) fetches
