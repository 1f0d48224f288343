-- How the job `audit` ends.
use Rattle.std.specs.Prelude.{◌≡◌, ℕ, List, Option, Some, None, MatchOption, Result, Ok, Err}
use Rattle.beet_field.specs.Trio.{of_each}
use Rattle.beet_auction.specs.Endings.{book_finish, book_rounds}
use Rattle.beet_errand.specs.Errands.{Answer, text_answer}
use Rattle.beet_errand.specs.Tasks.{Shows, ShowsRead, Task, ToShow}
use Rattle.beet_errand.specs.declared.answer.OwnRefusal.TheVariants.{OfAudit}
use Rattle.beet_errand.specs.declared.answer.Refusal.TheVariants.{Own}
use Rattle.beet_errand.specs.declared.answer.Status.TheVariants.{Refused as IsRefused}
use Rattle.beet_errand.specs.declared.answer.Stop.{Stop}
use Rattle.beet_errand.specs.declared.answer.Stop.TheVariants.{Refused, OutOfMemory}
use Rattle.beet_run.specs.Outcomes.{outcome_answer}
use Rattle.beet_audit.specs.Audits.{Finds, recombined_book}
use Rattle.beet_audit.specs.OneRuns.{OneRun}
use Rattle.beet_audit.specs.declared.fault.AuditFault.{AuditFault}
use Rattle.beet_job_audit.specs.Reading.{read_errand}
use Rattle.beet_job_audit.specs.Refusals.{fault_text}
use Rattle.beet_job_audit.specs.declared.reading.ReadViews.{ReadViews}

-- how the run of the views ended: as that of the recombined book, whose curves the bidders' points tell
abbrev pub run_answer : ReadViews → Answer
run_answer read =
    let book = recombined_book read.grid read.views in
    let masks = of_each (λ view. view.masks) read.views in
    outcome_answer read.grid (book_finish book masks) (book_rounds book masks)

-- how the run ended if nothing is wrong, and else the line of what is
abbrev pub audit_answer : ReadViews → Option AuditFault → Answer
audit_answer read None = run_answer read
audit_answer read (Some fault) = text_answer (IsRefused (Own OfAudit)) (fault_text fault)

-- an answer tells what is found: the first thing that is wrong with the views, or that nothing is, which is where they
-- are of one run
pub record TellsFinding (read : ReadViews) (answer : Answer) : Type 0 where
  pub found : Option AuditFault
  pub finds : Finds read.grid read.views found
  pub one_run : MatchOption found (OneRun read.grid read.views) (λ fault. OneRun read.grid read.views → ⊥)
  pub is : answer ≡ audit_answer read found

-- the auction and the transcripts are read, and the answer tells what is found
abbrev pub ShowsAudit : List ℕ → List ℕ → List ℕ → List ℕ → Shows
ShowsAudit auction one two three =
    ShowsRead (read_errand auction one two three) (λ read answer. TellsFinding read answer)

-- the job reads them, and its answer shows that
abbrev pub audit_task : List ℕ → List ℕ → List ℕ → List ℕ → Task
audit_task auction one two three =
    ToShow OfAudit (read_errand auction one two three) (ShowsAudit auction one two three)

-- the answer for three views that are read, or their refusal
abbrev pub AnswersViews : ReadViews → Result Answer Stop → Type 0
AnswersViews read (Ok answer) = TellsFinding read answer
AnswersViews read (Err (Refused refusal line)) =
    (refusal ≡ Own OfAudit) × TellsFinding read (text_answer (IsRefused (Own OfAudit)) line.items)
AnswersViews read (Err OutOfMemory) = Unit {0}
