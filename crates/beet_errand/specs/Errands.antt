-- What a job does outside before it answers: it fetches files, one after another, and judges each before the next.
use Rattle.std.specs.Prelude.{ℕ, List, [], ◌++◌, codes, decimal, Ok, Err}
use Rattle.beet_field.specs.Point.{number_of}
use Rattle.beet_field.specs.declared.point.Point.{Point}
use Rattle.beet_store.specs.Files.{File, FetchAnswer, Bytes, Longer, Nothing}
use Rattle.beet_forms.specs.Faults.{Fault, Reading, at_row}
use Rattle.beet_errand.specs.declared.fetching.TheConstants.{TOO_LONG}
use Rattle.beet_errand.specs.declared.answer.Refusal.{Refusal}
use Rattle.beet_errand.specs.declared.answer.Refusal.TheVariants.{ReadFault, BadFile}
use Rattle.beet_errand.specs.declared.answer.Status.{Status}
use Rattle.beet_errand.specs.declared.answer.Status.TheVariants.{Refused}
use Rattle.beet_errand.specs.Texts.{read_fault_text}
use Rattle.beet_forms.specs.FaultLines.{fault_line_of}

-- what a job answers: its status, the files that it puts, in order, and the text that it says after them
pub record Answer : Type 0 where
  pub status : Status
  pub files : List File
  pub text : List ℕ

-- the name of the file for a server: the name of the output, a dot and the server's number
abbrev pub file_for : List ℕ → Point → List ℕ
file_for out s = out ++ codes "." ++ decimal (number_of s)

-- an errand ends with its answer, or wants the file of a name, of at most so many bytes, which say how it goes on
pub data Errand : Type 0 where
  Ends : Answer → Errand
  Wants : List ℕ → ℕ → (List ℕ → Errand) → Errand

-- a step of an errand: what is done until it goes on with a value
abbrev pub Step : Type 0 → Type 0
Step A = (A → Errand) → Errand

infixl 10 ◌>>=◌
infixl 10 ◌>>◌
-- a step, and then the one that its value leads to
abbrev pub ◌>>=◌ : {A B : Type 0} → Step A → (A → Step B) → Step B
(step >>= rest) next = step (λ value. rest value next)

-- a test, and then a step
abbrev pub ◌>>◌ : {A : Type 0} → (Errand → Errand) → Step A → Step A
(test >> step) next = test (step next)

-- a step that fetches nothing
abbrev pub gives : {A : Type 0} → A → Step A
gives value next = next value

-- an answer that puts no file
abbrev pub text_answer : Status → List ℕ → Answer
text_answer status text = record { status = status; files = []; text = text }

-- the errand ends with this status and this text, and puts no file
abbrev pub answers : Status → List ℕ → Errand
answers status text = Ends (text_answer status text)

-- the errand is refused, by this line
abbrev pub refuses : Refusal → List ℕ → Errand
refuses refusal line = answers (Refused refusal) line

-- the file cannot be fetched
abbrev pub unread : List ℕ → Errand
unread name = refuses ReadFault (read_fault_text name)

-- the file breaks its format at a place, for a reason
abbrev pub bad_file : List ℕ → Fault → Errand
bad_file name fault = refuses BadFile (fault_line_of name fault.place fault.reason)

-- what stands for a file that is longer than its limit
abbrev pub too_long : Fault
too_long = at_row 0 TOO_LONG

-- the errand goes on with the value that a file reads as
abbrev pub judged : {A : Type 0} → List ℕ → Reading A → (A → Errand) → Errand
judged name (Ok value) next = next value
judged name (Err fault) next = bad_file name fault

-- the errand reads the file of a name, of at most so many bytes, by its grammar
abbrev pub reads : {A : Type 0} → List ℕ → ℕ → (List ℕ → Reading A) → (A → Errand) → Errand
reads name limit grammar next = Wants name limit (λ bytes. judged name (grammar bytes) next)

-- how an errand goes on that wanted a file, with what its fetch answered
abbrev pub after_answer : List ℕ → (List ℕ → Errand) → FetchAnswer → Errand
after_answer name next (Bytes bytes) = next bytes
after_answer name next (Longer n) = bad_file name too_long
after_answer name next Nothing = unread name
